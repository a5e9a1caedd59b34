use Rattle.std.proofs.Common.{◌≡◌, refl, take, ◌+◌, ℕ, List, get_or, sym, subst, arith, rules}
use Rattle.std.proofs.lemmas.Grind.{common_steps}
use Rattle.mst_vlan.specs.forest.Settled.{outcome_of}
use Rattle.mst_summary.specs.Vlans.{HasIslands}
use Rattle.mst_summary.proofs.VidClasses.{AtPlaces, more_at, all_at}
use Rattle.mst_summary.proofs.islands.counts_at.Goals as goal

pub loop-place-preserved : goal.loop-place-preserved
loop-place-preserved c = record {
  as_long = grind (arith, common_steps);
  counts =
      let R : ℕ → ℕ → Type 0 = HasIslands c.args.plan.now.net (outcome_of c.args.plan.now) in
      let i : ℕ = c.loop-place.place-index in
      let places = c.args.places.now in
      let place : ℕ = get_or places i 0 in
      let vid : c.unwrap-vid.result ≡ place + 1 = first_of (grind (arith, common_steps), search (rules, common_steps)) in
      subst (AtPlaces R (take (i + 1) places)) (sym {A = List ℕ} c.in_ok-push.ensures.items)
      (more_at R places i place c.unwrap-vid.result c.loop-place-test.true refl vid c.loop-place.counts.items c.in_ok-islands_of.field-0
      c.loop-place.invariant.counts c.in_ok-islands_of.ensures);
}

pub returns-clause-counts : goal.returns-clause-counts
returns-clause-counts c =
    all_at (HasIslands c.args.plan.now.net (outcome_of c.args.plan.now)) c.args.places.now c.loop-place.place-index c.loop-place-test.false c.loop-place.counts.items c.loop-place.invariant.counts
