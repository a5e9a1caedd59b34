use Rattle.std.proofs.Common.{ℕ, ◌<◌, ◌∷◌, [], ◌++◌, cond, get_or, length, sym, ap, subst, ◌∙◌}
use Rattle.std.specs.List.{filter, range_with_len}
use Rattle.mst_view.specs.Aggregation.{same_name}
use Rattle.mst_view.specs.declared.in_view.PortInView.{PortInView}
use Rattle.mst_summary.specs.Grouped.{group_at}
use Rattle.mst_summary.specs.Places.{is_on}
use Rattle.mst_summary.proofs.Lists.{trees_more}
use Rattle.mst_summary.proofs.PlacesOn.{on_at}
use Rattle.mst_summary.proofs.places.places_by_lan.Goals as goal

pub loop-place-preserved : goal.loop-place-preserved
loop-place-preserved c lan =
    let v = c.args.view.now in
    let n : ℕ = c.loop-place.place in
    let p = c.index-ports-place.result in
    let below : n < length v.ports = subst (λ ps. n < length ps) c.ports-ports.ensures c.loop-place-test.true in
    let on = on_at v lan n p below (c.index-ports-place.is ∙ ap (λ ps. get_or ps n p) c.ports-ports.ensures) in
    c.in_ok-add.ensures lan ∙ ap (λ (q : PortInView). group_at same_name c.loop-place.places lan ++ cond (same_name q.lan lan) (n ∷ []) []) (sym c.index-ports-place.is) ∙ ap (λ b. group_at same_name c.loop-place.places lan ++ cond b (n ∷ []) []) (sym on) ∙ ap (λ l. l ++ cond (is_on v lan n) (n ∷ []) []) (c.loop-place.invariant lan) ∙ sym (trees_more (is_on v lan) n)
