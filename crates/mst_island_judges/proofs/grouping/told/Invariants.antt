use Rattle.std.proofs.Common.{◌≡◌, map, take}
use Rattle.std.specs.List.{flat_map}
use Rattle.mst_judged.specs.reasons.sweep.Cuts.{names_of, parts_at}
use Rattle.mst_island_judges.specs.Grouping.{tells}
use Rattle.mst_judged.specs.reasons.Reasons.{group_reasons}
use Rattle.mst_island_judges.proofs.grouping.told.Given as goal

-- the reasons of the groups so far
abbrev pub invariant-loop-group : goal.invariant-loop-group
invariant-loop-group l = l.reasons.items ≡ flat_map (λ group. group_reasons (tells l.telling) (parts_at l.numbers (map names_of l.bodies)) group.items) (take l.group-index l.groups)
