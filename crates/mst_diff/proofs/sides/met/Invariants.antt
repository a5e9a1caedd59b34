use Rattle.std.proofs.Common.{map, take}
use Rattle.mst_diff.specs.Met.{AreMet}
use Rattle.mst_diff.proofs.sides.met.Given as goal

-- the islands so far
abbrev pub invariant-loop-group : goal.invariant-loop-group
invariant-loop-group l = AreMet (map (λ group. group.items) (take l.group-index l.groups)) l.met.keys
