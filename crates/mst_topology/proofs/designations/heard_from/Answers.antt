use Rattle.std.proofs.Common.{refl, sym, ◌∙◌, ap, subst, ◌≡◌, Some}
use Rattle.std.specs.Ordering.{is_gt}
use Rattle.std.proofs.lemmas.Cmp.{tied_itself}
use Rattle.mst_topology.specs.Places.{option_at}
use Rattle.mst_topology.specs.Topology.{TreePort}
use Rattle.mst_topology.specs.Settled.{IsDesignatedVector}
use Rattle.mst_topology.proofs.Search.{some_is}
use Rattle.mst_topology.proofs.Below.{one_message}
use Rattle.mst_topology.proofs.designations.heard_from.Goals as goal

pub returns-in_err-port : goal.returns-in_err-port
returns-in_err-port g c = rw c.from_residual-in_err-port.ensures (λ q x h. c.in_err-port.ensures.none refl q h.1.has_port (some_is q.number c.in_ok-number.field-0 (sym h.0 ∙ c.in_ok-number.was)))

pub returns-in_err-message : goal.returns-in_err-message
returns-in_err-message g c = rw c.from_residual-in_err-message.ensures (λ q x h.
    let there = c.in_ok-port.ensures.some c.in_ok-port.port refl in
    let same : q ≡ c.in_ok-port.port = c.known.ensures.one_port q c.in_ok-port.port h.1.has_port there.0 (some_is q.number c.in_ok-number.field-0 (sym h.0 ∙ c.in_ok-number.was) ∙ sym there.1) in
    c.in_err-message.ensures.none refl x (subst (λ z. IsDesignatedVector g.M.Metric.rules c.args.topology.now (option_at c.args.vectors.now) z x) same h.1))

pub returns : goal.returns
returns g c =
    let there = c.in_ok-port.ensures.some c.in_ok-port.port refl in
    let says = c.in_ok-message.ensures.some c.in_ok-message.message refl in
    let number = c.in_ok-number.was ∙ ap Some (sym there.1) in (
      c.in_ok-port.port,
      sym (ap (λ (q : TreePort _ _ _ _). q.number) c.port-2.view_is),
      (number, says),
      λ q y h.
          let same : q ≡ c.in_ok-port.port = c.known.ensures.one_port q c.in_ok-port.port h.1.has_port there.0 (some_is q.number c.in_ok-port.port.number (sym h.0 ∙ number)) in
          let message : c.in_ok-message.message ≡ y = one_message g.M.Metric.rules g.met.M.Metric.lawful c.args.topology.now c.known.ensures (option_at c.args.vectors.now) c.in_ok-port.port c.in_ok-message.message y says (subst (λ z. IsDesignatedVector g.M.Metric.rules c.args.topology.now (option_at c.args.vectors.now) z y) same h.1) in
          ap is_gt (ap (g.M.Metric.rules.order c.in_ok-message.message) (sym message) ∙ tied_itself g.met.M.Metric.lawful.total c.in_ok-message.message),
    )
