use Rattle.std.proofs.Common.{map, sym, ap, subst, ◌∙◌}
use Rattle.std.proofs.lemmas.Result.{IfOk-weaker}
use Rattle.mst_view.specs.Viewed.{named_port}
use Rattle.mst_forest.specs.Settled.{outcome_of}
use Rattle.mst_forest.proofs.SettledNet.{forest_of}
use Rattle.mst_roles.specs.Active.{JoinWithoutLoop}
use Rattle.mst_roles.specs.SeenActive.{seen_active}
use Rattle.mst_roles.proofs.ActiveListed.{active_listed}
use Rattle.mst_roles.proofs.topology.active_ports.Goals as goal

pub returns-clause-named : goal.returns-clause-named
returns-clause-named c =
    let s = c.args.plan.now in
    let listed = active_listed s.net s.numbers s.view s.forest c.known.ensures.of (forest_of s c.known.ensures) c.args.vid in
    IfOk-weaker c.forwarding_ports.result _ _ (λ ports e. ap (map named_port) (e ∙ (λ i. seen_active (c.view.ensures i) (c.forest.ensures i) c.args.vid)) ∙ sym listed) c.forwarding_ports.ensures

pub returns-clause-joined : goal.returns-clause-joined
returns-clause-joined c =
    let s = c.args.plan.now in
    let is = c.known.ensures in
    let listed = active_listed s.net s.numbers s.view s.forest is.of (forest_of s is) c.args.vid in
    IfOk-weaker c.forwarding_ports.result _ _ (λ ports e free.
    subst (JoinWithoutLoop s.net) (listed ∙ sym (ap (map named_port) (e ∙ (λ i. seen_active (c.view.ensures i) (c.forest.ensures i) c.args.vid))))
    (c.joined_without_loop.ensures.active s.net (outcome_of s) c.args.vid is.of.network is.is_outcome free)) c.forwarding_ports.ensures
