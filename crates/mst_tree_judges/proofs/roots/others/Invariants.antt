use Rattle.std.proofs.Common.{◌≡◌, take}
use Rattle.std.specs.List.{flat_map}
use Rattle.mst_view.specs.Viewed.{named_bridge}
use Rattle.mst_tree_judges.specs.Seen.{seen_other_root}
use Rattle.mst_tree_judges.proofs.roots.others.Given as goal

-- the reasons of the bridges so far
abbrev pub invariant-loop-bridge : goal.invariant-loop-bridge
invariant-loop-bridge l = l.reasons.items ≡ flat_map (λ b. seen_other_root l.plan.net l.tree l.name l.followers (named_bridge b)) (take l.bridge-index l.plan.view.bridges)
