use Rattle.std.proofs.Common.{◌≡◌, map, take}
use Rattle.std.specs.List.{flat_map}
use Rattle.mst_diff.specs.Seen.{apart_group}
use Rattle.mst_diff.proofs.sides.apart.Given as goal

-- those of the islands so far
abbrev pub invariant-loop-group : goal.invariant-loop-group
invariant-loop-group l =
    map (λ group. group.items) l.apart.items ≡ flat_map (apart_group (map (λ group. group.items) l.others)) (map (λ group. group.items) (take l.group-index l.groups))
