use Rattle.std.proofs.Common.{◌∙◌}
use Rattle.std.specs.List.{filter_map}
use Rattle.std.proofs.lemmas.Result.{IfOk-weaker}
use Rattle.mst_net.specs.tables.ByTree.{by_tree}
use Rattle.mst_net.specs.tables.Seen.{bridge_row}
use Rattle.mst_roles.specs.forest.InUse.{id_in}
use Rattle.mst_roles.specs.forest.Settled.{outcome_of}
use Rattle.mst_advise.specs.Seen.{seen_apart}
use Rattle.mst_advise.proofs.OthersSeen.{apart_seen}
use Rattle.mst_advise.proofs.hindrance.apart_of.Goals as goal

pub returns : goal.returns
returns c =
    let s = c.args.plan.now in
    let b = c.args.bridge.now in
    let id = c.bridge_id-id.ensures ∙ (λ i. id_in (c.settings.ensures i) c.args.tree b.name (bridge_row b.bridge)) in
    let those = c.as_slice.ensures.value ∙ c.in_ok-followers.ensures in
    IfOk-weaker c.other_roots.result _ _
    (λ names told. told ∙ (λ i. filter_map (seen_apart (id i)) (those i)) ∙ apart_seen s.net (outcome_of s) c.args.tree b.name (id_in (by_tree s.net) c.args.tree b.name (bridge_row b.bridge))) c.other_roots.ensures
