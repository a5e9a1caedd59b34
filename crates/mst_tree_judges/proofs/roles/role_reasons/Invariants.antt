use Rattle.std.proofs.Common.{◌≡◌, take}
use Rattle.std.specs.List.{flat_map}
use Rattle.mst_judged.specs.reasons.Reasons.{all_roles}
use Rattle.mst_tree_judges.specs.Seen.{seen_role_reason}
use Rattle.mst_tree_judges.proofs.roles.role_reasons.Given as goal

-- the reasons of the roles so far
abbrev pub invariant-loop-role : goal.invariant-loop-role
invariant-loop-role l = l.reasons.items ≡ flat_map (seen_role_reason l.plan.view l.plan.forest l.tree l.named.items l.roles) (take l.role-index all_roles)
