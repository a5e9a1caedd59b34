use Rattle.std.proofs.Common.{◌≡◌, refl, take, ◌+◌, ℕ, Bool, List, get_or, sym, ap, subst, ◌∙◌, arith, rules}
use Rattle.std.proofs.lemmas.Grind.{common_steps}
use Rattle.mst_judged.proofs.reasons_lemmas.summary_lemmas.VidClasses.{AtPlaces, more_at, all_at}
use Rattle.mst_judged.specs.reasons.Over.{is_wrong}
use Rattle.mst_judged.specs.reasons.summary.Seen.{seen_over}
use Rattle.mst_tree_judges.proofs.over.flags_at.Goals as goal

pub loop-place-preserved : goal.loop-place-preserved
loop-place-preserved c = record {
  as_long = grind (arith, common_steps);
  flags =
      let s = c.args.plan.now in
      let R : ℕ → Bool → Type 0 = λ vid flag. flag ≡ is_wrong c.args.is_wanted (seen_over s.view s.forest c.args.ports.now vid) in
      let i : ℕ = c.loop-place.place-index in
      let places = c.args.places.now in
      let place : ℕ = get_or places i 0 in
      let vid : c.unwrap-vid.result ≡ place + 1 = first_of (grind (arith, common_steps), search (rules, common_steps)) in
      subst (AtPlaces R (take (i + 1) places)) (sym {A = List Bool} c.in_ok-push.ensures.items)
      (more_at R places i place c.unwrap-vid.result c.loop-place-test.true refl vid c.loop-place.flags.items c.is_wrong.result c.loop-place.invariant.flags (c.is_wrong.ensures ∙ ap (is_wrong c.args.is_wanted) c.in_ok-goes_over.ensures));
}

pub returns-clause-flags : goal.returns-clause-flags
returns-clause-flags c =
    let s = c.args.plan.now in
    all_at (λ vid flag. flag ≡ is_wrong c.args.is_wanted (seen_over s.view s.forest c.args.ports.now vid)) c.args.places.now c.loop-place.place-index c.loop-place-test.false c.loop-place.flags.items
    c.loop-place.invariant.flags
