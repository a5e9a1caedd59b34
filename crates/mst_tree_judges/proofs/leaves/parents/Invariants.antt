use Rattle.std.proofs.Common.{◌≡◌, take}
use Rattle.std.specs.List.{flat_map}
use Rattle.mst_judged.specs.reasons.Reasons.{leaf_reason}
use Rattle.mst_tree_judges.specs.Seen.{names_at}
use Rattle.mst_tree_judges.proofs.leaves.parents.Given as goal

-- the reasons of the bridges so far
abbrev pub invariant-loop-bridge : goal.invariant-loop-bridge
invariant-loop-bridge l = l.reasons.items ≡ flat_map (λ b. leaf_reason l.tree b.name (names_at l.kept b.name)) (take l.bridge-index l.bridges)
