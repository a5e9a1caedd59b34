use Rattle.std.proofs.Common.{sym, subst, ◌∙◌}
use Rattle.std.proofs.lemmas.Result.{IfOk-weaker}
use Rattle.mst_graph.specs.Islands.{AreIslands}
use Rattle.mst_roles.proofs.forest_lemmas.SettledNet.{forest_of, known_of}
use Rattle.mst_roles.specs.SeenActive.{seen_active}
use Rattle.mst_vlan.specs.Seen.{seen_bridges, seen_lans, seen_links}
use Rattle.mst_vlan.proofs.Reached.{reached}
use Rattle.mst_vlan.proofs.reaching.reach_from.Goals as goal

pub joined-requires-clause-known : goal.joined-requires-clause-known
joined-requires-clause-known c = known_of c.args.plan.now c.known.ensures c.view-view.result.now c.forest-forest.result.now c.view-view.ensures c.forest-forest.ensures

pub joined-requires-clause-active : goal.joined-requires-clause-active
joined-requires-clause-active c = c.requires ∙ sym (λ i. seen_active (c.view-view.ensures i) (c.forest-forest.ensures i) c.args.vid)

pub returns : goal.returns
returns c =
    let s = c.args.plan.now in
    let vid = c.args.vid in
    let joined = c.in_ok-joined.joined.items in
    let are = subst (λ v. AreIslands (seen_bridges v) (seen_lans v) (seen_links v c.forest-forest.result.now vid) joined) c.view-view.ensures c.in_ok-joined.ensures in
    let islands_are = subst (λ f. AreIslands (seen_bridges s.view) (seen_lans s.view) (seen_links s.view f vid) joined) c.forest-forest.ensures are in
    IfOk-weaker c.listed.result _ _ (λ islands e. reached s.net s.numbers s.view s.forest c.known.ensures.of (forest_of s c.known.ensures) vid joined islands_are islands.items (e ∙ c.as_slice.ensures.value)) c.listed.ensures
