use Rattle.std.proofs.Common.{◌≡◌, ◌<◌, ◌≤◌, get_or, length, subst, ap, ◌∙◌}
use Rattle.mst_view.specs.Viewed.{named_bridge}
use Rattle.mst_view.specs.declared.in_view.BridgeInView.{BridgeInView}
use Rattle.mst_tree_judges.specs.Seen.{seen_other_root}
use Rattle.mst_tree_judges.proofs.FlatMore.{flat_all, flat_more}
use Rattle.mst_tree_judges.proofs.roots.others.Goals as goal

pub loop-bridge-preserved : goal.loop-bridge-preserved
loop-bridge-preserved c =
    let s = c.args.plan.now in
    let l = c.loop-bridge in
    let fs = c.args.followers.now in
    let item = c.bridge-item.result in
    let bridges = c.bridges-bridge-items.ensures ∙ ap (λ v. v.bridges) c.view.ensures in
    flat_more (λ (b : BridgeInView). seen_other_root s.net c.args.tree c.args.name.now fs (named_bridge b)) s.view.bridges l.bridge-index item
    (subst (λ bs. l.bridge-index < length bs) bridges c.loop-bridge-test.true) (subst (λ bs. item ≡ get_or bs l.bridge-index item) bridges c.bridge-item.is) l.reasons.items c.add_other.new.reasons.items l.invariant
    (c.in_ok-add_other.ensures fs c.in_ok-counts.ensures)

pub returns : goal.returns
returns c =
    let s = c.args.plan.now in
    let l = c.loop-bridge in
    let bridges = c.bridges-bridge-items.ensures ∙ ap (λ v. v.bridges) c.view.ensures in
    flat_all (λ (b : BridgeInView). seen_other_root s.net c.args.tree c.args.name.now c.args.followers.now (named_bridge b)) s.view.bridges l.bridge-index
    (subst (λ bs. length bs ≤ l.bridge-index) bridges c.loop-bridge-test.false) l.reasons.items l.invariant
