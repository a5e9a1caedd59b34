use Rattle.std.proofs.Common.{◌≡◌, sym, ◌∙◌, subst}
use Rattle.mst_topology.specs.Topology.{HasPort}
use Rattle.mst_settle.proofs.differences.same_at.Goals as goal

pub returns-in-None-None : goal.returns-in-None-None
returns-in-None-None g c = λ yes p number. (
  λ h. absurd (c.port.ensures.none c.in-None-None.is-0 p h number),
  λ h. absurd (c.port-2.ensures.none c.in-None-None.is-1 p h number),
)

pub returns-in-Some-Some : goal.returns-in-Some-Some
returns-in-Some-Some g c = λ yes p number.
    let here = c.port.ensures.some c.in-Some-Some.a c.in-Some-Some.is-0 in
    let there = c.port-2.ensures.some c.in-Some-Some.b c.in-Some-Some.is-1 in
    let same : c.in-Some-Some.a ≡ c.in-Some-Some.b = c.same_tree_port.ensures.yes yes in (
      λ h. subst (λ z. HasPort c.args.to.now z) (sym same ∙ c.known.ensures.one_port c.in-Some-Some.a p here.0 h (here.1 ∙ sym number)) there.0,
      λ h. subst (λ z. HasPort c.args.from.now z) (same ∙ c.known-2.ensures.one_port c.in-Some-Some.b p there.0 h (there.1 ∙ sym number)) here.0,
    )
