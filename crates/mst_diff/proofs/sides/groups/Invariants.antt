use Rattle.std.proofs.Common.{◌≡◌, map, take}
use Rattle.mst_diff.specs.Seen.{seen_groups}
use Rattle.mst_diff.proofs.sides.groups.Given as goal

-- the bridges of the islands so far
abbrev pub invariant-loop-island : goal.invariant-loop-island
invariant-loop-island l = map (λ group. group.items) l.groups.items ≡ seen_groups l.view (take l.island-index l.islands)
