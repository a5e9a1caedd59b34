use Rattle.std.proofs.Common.{◌++◌, ap, ◌∙◌, rules}
use Rattle.std.proofs.lemmas.Iterator.Adapters.{items_from_extend}
use Rattle.std.proofs.lemmas.Iterator.Consumers.{YieldsList-from_filter_map}
use Rattle.std.proofs.lemmas.Iterator.{YieldsList-from_slice}
use Rattle.std.proofs.lemmas.Result.{on_ok_weaker}
use Rattle.std.specs.List.{filter_map}
use Rattle.mst_view.specs.Viewed.{named_bridge}
use Rattle.mst_view.specs.declared.in_view.BridgeInView.{BridgeInView}
use Rattle.mst_vlan.specs.forest.Settled.{outcome_of}
use Rattle.mst_summary.specs.Roots.{follower}
use Rattle.mst_summary.proofs.Named.{followers_named}
use Rattle.mst_summary.proofs.roots.push_followers.Goals as goal

pub returns : goal.returns
returns c =
    let s = c.args.plan.now in
    let tree = c.args.tree in
    let row = λ (b : BridgeInView). follower s.net (outcome_of s) tree (named_bridge b) in
    on_ok_weaker c.extend.result (λ w. w.0 ∙ ap (λ all. c.args.followers.now.items ++ all) (followers_named s c.known.ensures tree))
    (items_from_extend {all = filter_map row s.view.bridges} c.extend.result c.extend.ensures.ran
    (YieldsList-from_filter_map _ row (YieldsList-from_slice s.view.bridges (cc)) c.filter_map.ensures.closure (λ x r q k. search rules)))
