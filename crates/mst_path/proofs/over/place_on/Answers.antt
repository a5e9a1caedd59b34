use Rattle.std.proofs.Common.{◌≡◌, ℕ, List, [], get_or, sym, ap, ◌∙◌, inl, inr, true≢false, arith}
use Rattle.std.specs.Cmp.Lexicographic.{nat_list_eq_equiv}
use Rattle.std.proofs.lemmas.List.{get_or-map}
use Rattle.mst_graph.proofs.Cut.{same_or_not}
use Rattle.mst_view.specs.Aggregation.{same_name}
use Rattle.mst_view.specs.declared.in_view.PortInView.{PortInView}
use Rattle.mst_view.proofs.Names.{same_names}
use Rattle.mst_path.specs.Places.{bridge_names}
use Rattle.mst_path.proofs.over.place_on.Goals as goal

pub returns-then-eq : goal.returns-then-eq
returns-then-eq c =
    let bridge : PortInView → List ℕ = λ p. p.name.bridge in
    let item : PortInView = c.index-ports-place.result in (
      c.loop-place-test.true,
      get_or-map bridge c.args.ports.now c.loop-place.place item [] c.loop-place-test.true ∙ ap bridge (sym c.index-ports-place.is) ∙ same_names item.name.bridge c.args.bridge.now (sym c.eq.ensures ∙ c.if-eq.true),
    )

pub loop-place-preserved : goal.loop-place-preserved
loop-place-preserved c = λ k h e.
    let bridge : PortInView → List ℕ = λ p. p.name.bridge in
    let ports : List PortInView = c.args.ports.now in
    let item : PortInView = c.index-ports-place.result in
    let at : get_or (bridge_names ports) c.loop-place.place [] ≡ item.name.bridge = get_or-map bridge ports c.loop-place.place item [] c.loop-place-test.true ∙ ap bridge (sym c.index-ports-place.is) in
    elim (same_or_not k c.loop-place.place) [
      | inl q ↦ (let same : item.name.bridge ≡ c.args.bridge.now = sym at ∙ ap (λ k. get_or (bridge_names ports) k []) (sym q) ∙ e in
          true≢false (sym (nat_list_eq_equiv.refl item.name.bridge) ∙ ap (same_name item.name.bridge) same ∙ sym c.eq.ensures ∙ c.if-eq.false))
      | inr n ↦ c.loop-place.invariant k (omega arith) e
    ]
