use Rattle.std.proofs.Common.{◌≡◌, refl, take, ◌+◌, ℕ, Bool, List, get_or, sym, subst, arith, rules}
use Rattle.std.proofs.lemmas.Grind.{common_steps}
use Rattle.mst_summary.specs.Places.{with_places}
use Rattle.mst_summary.proofs.VidClasses.{AtPlaces, more_at, all_at}
use Rattle.mst_summary.proofs.carries.flags_at.Goals as goal

pub loop-place-preserved : goal.loop-place-preserved
loop-place-preserved c = record {
  as_long = grind (arith, common_steps);
  flags =
      let R : ℕ → Bool → Type 0 = λ vid flag. flag ≡ (with_places c.args.carriage.now.view c.args.carriage.now.forest vid c.args.ports.now).is_of_two in
      let i : ℕ = c.loop-place.place-index in
      let places = c.args.places.now in
      let place : ℕ = get_or places i 0 in
      let vid : c.unwrap-vid.result ≡ place + 1 = first_of (grind (arith, common_steps), search (rules, common_steps)) in
      subst (AtPlaces R (take (i + 1) places)) (sym {A = List Bool} c.in_ok-push.ensures.items)
      (more_at R places i place c.unwrap-vid.result c.loop-place-test.true refl vid c.loop-place.flags.items c.goes_over_at.result c.loop-place.invariant.flags c.goes_over_at.ensures);
}

pub returns-clause-flags : goal.returns-clause-flags
returns-clause-flags c =
    all_at (λ vid flag. flag ≡ (with_places c.args.carriage.now.view c.args.carriage.now.forest vid c.args.ports.now).is_of_two) c.args.places.now c.loop-place.place-index c.loop-place-test.false c.loop-place.flags.items
    c.loop-place.invariant.flags
