use Rattle.std.proofs.Common.{◌≡◌, ◌++◌, take}
use Rattle.std.specs.List.{flat_map}
use Rattle.mst_picture.specs.Lans.{end_line}
use Rattle.mst_picture.proofs.lans.push_end_lines.Given as goal

-- the ends so far
abbrev pub invariant-loop-end : goal.invariant-loop-end
invariant-loop-end l = l.out.items ≡ l.fn.out.items ++ flat_map (end_line l.lan) (take l.end-index l.ends)
