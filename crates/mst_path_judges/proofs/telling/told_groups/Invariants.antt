use Rattle.std.proofs.Common.{◌≡◌, None, map, take}
use Rattle.std.specs.List.{flat_map}
use Rattle.mst_judged.specs.Valued.{value_at}
use Rattle.mst_judged.specs.reasons.Reasons.{group_reasons}
use Rattle.mst_path_judges.specs.Asked.{tells, told_of}
use Rattle.mst_path_judges.proofs.telling.told_groups.Given as goal

-- the reasons of the groups so far
abbrev pub invariant-loop-group : goal.invariant-loop-group
invariant-loop-group l = l.reasons.items ≡ flat_map (λ group. group_reasons (tells l.asked) (value_at None l.numbers (map told_of l.values)) group.items) (take l.group-index l.groups)
