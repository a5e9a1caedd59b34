use Rattle.std.proofs.Common.{◌≡◌, refl, take, ◌+◌, ◌<◌, length, ℕ, Bool, List, ◌∷◌, [], get_or, map, sym, ap, subst, ◌∙◌, arith, rules}
use Rattle.std.proofs.lemmas.Grind.{common_steps}
use Rattle.std.proofs.lemmas.List.{map-append}
use Rattle.mst_sweep.specs.Cuts.{names_of}
use Rattle.mst_sweep.proofs.Placed.{AtPlaces, places_more, places_all}
use Rattle.mst_sweeping.specs.MovedVids.{ArePartsBut, IsJoinedBut, IsMoved}
use Rattle.mst_sweeping.proofs.fates.fates_at.Goals as goal

pub loop-index-preserved : goal.loop-index-preserved
loop-index-preserved c =
    let i : ℕ = c.loop-index.index in
    let places : List ℕ = c.args.places.now in
    let place : ℕ = get_or places i 0 in
    let vid : c.unwrap-vid.result ≡ place + 1 = first_of (grind (arith, common_steps), search (rules, common_steps)) in
    let below : i < length places = omega (arith, c.loop-index-test.true, c.loop-index.auto.index-end) in
    let of = c.in_ok-of.of in
    record {
      parts_long = grind (arith, common_steps);
      joins_long = grind (arith, common_steps);
      moves_long = grind (arith, common_steps);
      parts = λ a b n k is are of_a of_b.
          let R : ℕ → List (List (List ℕ)) → Type 0 = ArePartsBut c.args.change.now.leaving.now a is.outcome b are.outcome in
          let pushed = ap (map names_of) c.in_ok-push.ensures.items ∙ map-append names_of c.loop-index.parts.items (of.parts ∷ []) in
          subst (AtPlaces R (take (i + 1) places)) (sym pushed)
          (places_more R places i place c.unwrap-vid.result below refl vid (map names_of c.loop-index.parts.items) (names_of of.parts)
          (c.loop-index.invariant.parts a b n k is are of_a of_b) (c.in_ok-of.ensures.parts a b n k is are of_a of_b));
      joins = λ a b n k is are of_a of_b.
          let R : ℕ → Bool → Type 0 = IsJoinedBut c.args.change.now.leaving.now a is.outcome b are.outcome in
          subst (AtPlaces R (take (i + 1) places)) (sym c.in_ok-push-2.ensures.items)
          (places_more R places i place c.unwrap-vid.result below refl vid c.loop-index.joins.items of.joins
          (c.loop-index.invariant.joins a b n k is are of_a of_b) (c.in_ok-of.ensures.joins a b n k is are of_a of_b));
      moves = λ a b n k is are of_a of_b.
          let R : ℕ → Bool → Type 0 = IsMoved a is.outcome b are.outcome in
          subst (AtPlaces R (take (i + 1) places)) (sym c.in_ok-push-3.ensures.items)
          (places_more R places i place c.unwrap-vid.result below refl vid c.loop-index.moves.items of.moves
          (c.loop-index.invariant.moves a b n k is are of_a of_b) (c.in_ok-of.ensures.moves a b n k is are of_a of_b));
    }

pub returns-clause-parts : goal.returns-clause-parts
returns-clause-parts c a b n k is are of so =
    places_all (ArePartsBut c.args.change.now.leaving.now a is.outcome b are.outcome) c.args.places.now c.loop-index.index (omega arith) (map names_of c.loop-index.parts.items) (c.loop-index.invariant.parts a b n k is are of so)

pub returns-clause-joins : goal.returns-clause-joins
returns-clause-joins c a b n k is are of so =
    places_all (IsJoinedBut c.args.change.now.leaving.now a is.outcome b are.outcome) c.args.places.now c.loop-index.index (omega arith) c.loop-index.joins.items (c.loop-index.invariant.joins a b n k is are of so)

pub returns-clause-moves : goal.returns-clause-moves
returns-clause-moves c a b n k is are of so =
    places_all (IsMoved a is.outcome b are.outcome) c.args.places.now c.loop-index.index (omega arith) c.loop-index.moves.items (c.loop-index.invariant.moves a b n k is are of so)
