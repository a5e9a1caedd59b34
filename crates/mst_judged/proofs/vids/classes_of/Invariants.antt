use Rattle.std.proofs.Common.{◌≡◌, ◌-◌, ◌<◌, map, slice_index, take}
use Rattle.std.specs.List.{All}
use Rattle.mst_judged.proofs.vids.classes_of.Given as goal

-- those of the VIDs so far
abbrev pub invariant-loop-vid : goal.invariant-loop-vid
invariant-loop-vid l = record { value : l.classes.items ≡ map (λ vid. slice_index l.numbers (vid - 1)) (take l.vid-index l.vids); below : All (λ class. class < l.count) l.classes.items }
