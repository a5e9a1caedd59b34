use Rattle.std.proofs.Common.{◌≡◌, map, take}
use Rattle.std.specs.List.{filter}
use Rattle.mst_graph.specs.Lists.{has_any}
use Rattle.mst_sweep.specs.Cuts.{names_of, parts_at}
use Rattle.mst_sweep.proofs.cuts.cut_of.Given as goal

-- those that have parts so far
abbrev pub invariant-loop-vid : goal.invariant-loop-vid
invariant-loop-vid l = l.cut.items ≡ filter (λ vid. has_any (parts_at l.numbers (map names_of l.each) vid)) (take l.vid-index l.vids)
