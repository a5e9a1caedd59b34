use Rattle.std.proofs.Common.{◌≡◌, map, take}
use Rattle.mst_diff.proofs.sides.copy.Given as goal

abbrev pub invariant-loop-group : goal.invariant-loop-group
invariant-loop-group l = map (λ group. group.items) l.copied.items ≡ map (λ group. group.items) (take l.group-index l.groups)
