use Rattle.std.proofs.Common.{◌≡◌, ◌<◌, ℕ, ◌+◌, false, Some, get_or, length, refl, sym, ap, subst, ◌∙◌, take, fold}
use Rattle.std.specs.Prelude.{if◌then◌else◌}
use Rattle.std.proofs.lemmas.List.{get_or_default}
use Rattle.std.proofs.lemmas.Option.{slice_get-get_or}
use Rattle.mst_view.specs.declared.in_view.PortInView.{PortInView}
use Rattle.mst_summary.specs.declared.crossing.Crossing.{Crossing}
use Rattle.mst_summary.specs.Places.{no_port, with_bridge, with_place}
use Rattle.mst_summary.proofs.Lists.{fold_more}
use Rattle.mst_summary.proofs.PlacesOn.{place_met, place_left}
use Rattle.mst_summary.proofs.crossing.crossing_at.Goals as goal
use Rattle.mst_summary.proofs.crossing.crossing_at.Goals.{then-carries, else-carries}

pub loop-place-preserved : goal.loop-place-preserved
loop-place-preserved c =
    let l = c.loop-place in
    let v = c.args.carriage.now.view in
    let f = c.args.carriage.now.forest in
    let vid = c.args.vid in
    let places = c.args.places.now in
    let i : ℕ = l.place-index in
    let place : ℕ = get_or places i 0 in
    let below : place < length v.ports = c.requires i 0 c.loop-place-test.true in
    let more = fold_more (with_place v f vid) no_port places i place c.loop-place-test.true (get_or_default places i 0 place c.loop-place-test.true) in
    let so_far : Crossing = fold (with_place v f vid) no_port (take i places) in
    elim c.if-carries.branch [
      | then-carries w ↦
          let ports = c.ports-ports.ensures ∙ ap (λ w. w.ports) c.view.ensures in
          let p = w.index-ports-place.result in
          let at = slice_get-get_or v.ports place p below ∙ ap Some (sym (w.index-ports-place.is ∙ ap (λ ps. get_or ps place p) ports)) in
          w.crossing-is ∙ w.with_bridge-crossing.ensures ∙ ap (λ (q : PortInView). with_bridge l.crossing q.name.bridge) (sym w.index-ports-place.is) ∙ ap (λ d. with_bridge d p.name.bridge) l.invariant
          ∙ sym (more ∙ place_met v f vid so_far place p at below c.carries.result c.carries.ensures ∙ ap (λ b. if b then with_bridge so_far p.name.bridge else so_far) w.if-carries.true)
      | else-carries w ↦ w.crossing-is ∙ l.invariant ∙ sym (more ∙ place_left v f vid so_far place below (sym c.carries.ensures ∙ w.if-carries.false))
    ]
