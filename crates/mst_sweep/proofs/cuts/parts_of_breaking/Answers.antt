use Rattle.std.proofs.Common.{◌+◌, ◌<◌, ◌≤◌, ℕ, List, ◌∷◌, [], get_or, length, map, refl, true, false, sym, subst, ap, ◌∙◌, arith, take}
use Rattle.std.proofs.lemmas.Grind.{common_steps}
use Rattle.std.proofs.lemmas.List.{get_or_default, map-append}
use Rattle.mst_sweep.specs.Cuts.{names_of}
use Rattle.mst_sweep.specs.Parts.{AreParts}
use Rattle.mst_sweep.proofs.Placed.{AtPlaces, places_more, places_all}
use Rattle.mst_sweep.proofs.cuts.parts_of_breaking.Goals as goal

pub loop-class-preserved : goal.loop-class-preserved
loop-class-preserved c = record {
  as_long = grind (arith, common_steps);
  parts = λ a b n k is are of so left.
      let i : ℕ = c.loop-class.class in
      let firsts : List ℕ = c.args.baseline.now.classes.firsts.items in
      let place : ℕ = get_or firsts i 0 in
      let below : i < length firsts = omega (arith, c.loop-class-test.true, c.loop-class.auto.class-end, c.requires.as_long) in
      let pushed = ap (map names_of) c.in_ok-push.ensures.items ∙ map-append names_of c.loop-class.parts.items (c.in_ok-parts_at.field-0 ∷ []) in
      subst (AtPlaces (AreParts a is.outcome b are.outcome) (take (i + 1) firsts)) (sym pushed)
      (places_more (AreParts a is.outcome b are.outcome) firsts i place (place + 1) below refl refl (map names_of c.loop-class.parts.items) (names_of c.in_ok-parts_at.field-0)
      (c.loop-class.invariant.parts a b n k is are of so left) (c.in_ok-parts_at.ensures a b n k is are of so left));
}

pub returns-clause-parts : goal.returns-clause-parts
returns-clause-parts c a b n k is are of so left =
    let firsts : List ℕ = c.args.baseline.now.classes.firsts.items in
    let past : length firsts ≤ c.loop-class.class = omega (arith, c.loop-class-test.false, c.loop-class.auto.class-end, c.requires.as_long) in
    places_all (AreParts a is.outcome b are.outcome) firsts c.loop-class.class past (map names_of c.loop-class.parts.items) (c.loop-class.invariant.parts a b n k is are of so left)

pub returns-clause-as_long : goal.returns-clause-as_long
returns-clause-as_long c = omega (arith, c.loop-class.invariant.as_long, c.loop-class-test.false, c.loop-class.auto.class-end, c.requires.as_long)

pub parts_at-requires-clause-others : goal.parts_at-requires-clause-others
parts_at-requires-clause-others c off =
    let i : ℕ = c.loop-class.class in
    let below : i < length c.args.breaking.now = omega (arith, c.loop-class-test.true, c.loop-class.auto.class-end) in
    c.requires.others i (get_or_default c.args.breaking.now i true false below ∙ off)
