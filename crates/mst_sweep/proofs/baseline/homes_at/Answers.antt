use Rattle.std.proofs.Common.{◌≡◌, refl, take, ◌+◌, ℕ, ◌∷◌, [], get_or, map, sym, ap, subst, ◌∙◌, arith, rules}
use Rattle.std.proofs.lemmas.Grind.{common_steps}
use Rattle.std.proofs.lemmas.List.{map-append}
use Rattle.mst_sweep.specs.Baseline.{AreHomes}
use Rattle.mst_sweep.proofs.Placed.{AtPlaces, places_more, places_all}
use Rattle.mst_sweep.proofs.baseline.homes_at.Goals as goal

pub loop-place-preserved : goal.loop-place-preserved
loop-place-preserved c = record {
  as_long = grind (arith, common_steps);
  homes = λ net k is of.
      let i : ℕ = c.loop-place.place-index in
      let places = c.args.places.now in
      let place : ℕ = get_or places i 0 in
      let vid : c.unwrap-vid.result ≡ place + 1 = first_of (grind (arith, common_steps), search (rules, common_steps)) in
      let pushed = ap (map (λ h. h.entries)) c.in_ok-push.ensures.items ∙ map-append (λ h. h.entries) c.loop-place.homes.items (c.in_ok-homes_by.field-0 ∷ []) in
      subst (AtPlaces (AreHomes net k is.outcome) (take (i + 1) places)) (sym pushed)
      (places_more (AreHomes net k is.outcome) places i place c.unwrap-vid.result c.loop-place-test.true refl vid (map (λ h. h.entries) c.loop-place.homes.items) c.in_ok-homes_by.field-0.entries
      (c.loop-place.invariant.homes net k is of) (c.in_ok-homes_by.ensures net k is of));
}

pub returns-clause-homes : goal.returns-clause-homes
returns-clause-homes c net k is of =
    places_all (AreHomes net k is.outcome) c.args.places.now c.loop-place.place-index (omega arith) (map (λ h. h.entries) c.loop-place.homes.items) (c.loop-place.invariant.homes net k is of)
