use Rattle.std.proofs.Common.{refl, sym, ◌∙◌, ap, ◌≡◌, Some, eqb-true}
use Rattle.std.proofs.lemmas.Bool.{eqb-false}
use Rattle.mst_topology.specs.Topology.{TreePort}
use Rattle.mst_topology.proofs.Search.{some_is}
use Rattle.mst_topology.proofs.designations.is_port_of.Goals as goal

pub returns-in-None-clause-no : goal.returns-in-None-clause-no
returns-in-None-clause-no g c = λ e h. c.in-None.ensures.none refl h.0 h.1 (sym (some_is c.in-Some.number h.0.number (sym c.in-Some.is ∙ h.2)))

pub returns-in-Some-port-clause-yes : goal.returns-in-Some-port-clause-yes
returns-in-Some-port-clause-yes g c = λ e.
    let there = c.in-Some-port.ensures.some c.in-Some-port.port refl in
    let on = eqb-true c.port-in-Some-port.inside.bridge c.args.bridge (sym c.eq.ensures ∙ e) in
    (c.in-Some-port.port, there.0, c.in-Some.is ∙ ap Some (sym there.1), sym (ap (λ q. q.bridge) c.port-in-Some-port.view_is) ∙ on)

pub returns-in-Some-port-clause-no : goal.returns-in-Some-port-clause-no
returns-in-Some-port-clause-no g c = λ e h.
    let there = c.in-Some-port.ensures.some c.in-Some-port.port refl in
    let other = eqb-false c.port-in-Some-port.inside.bridge c.args.bridge (sym c.eq.ensures ∙ e) in
    let number : c.in-Some.number ≡ h.0.number = some_is c.in-Some.number h.0.number (sym c.in-Some.is ∙ h.2) in
    let same : c.in-Some-port.port ≡ h.0 = c.known.ensures.one_port c.in-Some-port.port h.0 there.0 h.1 (there.1 ∙ number) in
    other (ap (λ q. q.bridge) c.port-in-Some-port.view_is ∙ ap (λ (q : TreePort _ _ _ _). q.bridge) same ∙ h.3)
