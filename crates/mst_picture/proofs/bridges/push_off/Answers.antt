use Rattle.std.proofs.Common.{◌≡◌, ◌<◌, List, length, get_or, subst, ap, ◌∙◌}
use Rattle.mst_view.specs.declared.in_view.BridgeInView.{BridgeInView}
use Rattle.mst_view.specs.Viewed.{Viewed}
use Rattle.mst_picture.specs.InView.{off_of}
use Rattle.mst_picture.proofs.Lines.{text_more}
use Rattle.mst_picture.proofs.bridges.push_off.Goals as goal

pub loop-bridge-preserved : goal.loop-bridge-preserved
loop-bridge-preserved c =
    let l = c.loop-bridge in
    let b = c.bridge-item.result in
    let i = l.bridge-index in
    let bridges = c.args.plan.now.view.bridges in
    let there : c.bridges-bridge-items.result.now ≡ bridges = c.bridges-bridge-items.ensures ∙ ap (λ (v : Viewed). v.bridges) c.view.ensures in
    text_more off_of bridges i b (subst (λ (bs : List BridgeInView). i < length bs) there c.loop-bridge-test.true) (subst (λ (bs : List BridgeInView). b ≡ get_or bs i b) there c.bridge-item.is) c.args.out.now.items
    l.out.items c.push_unless_on.new.out.items l.invariant (c.in_ok-push_unless_on.ensures {u = tt})
