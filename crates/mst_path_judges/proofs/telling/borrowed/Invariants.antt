use Rattle.std.proofs.Common.{◌≡◌, map, take}
use Rattle.mst_path_judges.proofs.telling.borrowed.Given as goal

-- those so far
abbrev pub invariant-loop-value : goal.invariant-loop-value
invariant-loop-value l = map (λ value. value.now) l.borrowed.items ≡ take l.value-index l.values
