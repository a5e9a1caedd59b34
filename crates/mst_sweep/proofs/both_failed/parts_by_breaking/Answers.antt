use Rattle.std.proofs.Common.{◌≡◌, ◌+◌, ◌<◌, ℕ, List, ◌∷◌, [], get_or, length, map, true, false, sym, subst, ap, ◌∙◌, arith, length-append}
use Rattle.std.proofs.lemmas.List.{get_or_default, map-append, length-map}
use Rattle.mst_sweep.specs.Cuts.{names_of}
use Rattle.mst_sweep.specs.CutClasses.{IsPartsOfClass}
use Rattle.mst_sweep.specs.Pairs.{Pair, Outcomes}
use Rattle.mst_sweep.proofs.PairParts.{one_class_more}
use Rattle.mst_sweep.proofs.both_failed.parts_by_breaking.Goals as goal

pub loop-class-preserved : goal.loop-class-preserved
loop-class-preserved c = record {
  as_long = omega (arith, ap length c.in_ok-push.ensures.items, length-append c.loop-class.parts.items (c.in_ok-of.of ∷ []), c.loop-class.invariant.as_long);
  parts = λ net n is are one other of so first second.
      let i : ℕ = c.loop-class.class in
      let pair : Pair = record { first = c.args.first.now.failure; second = c.args.second.now.failure } in
      let outcomes : Outcomes = record { none = is.outcome; first = one; second = other; both = are.outcome } in
      let R = IsPartsOfClass net pair outcomes c.args.baseline.now.classes in
      let before : List (List (List (List ℕ))) = map names_of c.loop-class.parts.items in
      let long : length before ≡ i = length-map c.loop-class.parts.items names_of ∙ c.loop-class.invariant.as_long in
      let pushed = ap (map names_of) c.in_ok-push.ensures.items ∙ map-append names_of c.loop-class.parts.items (c.in_ok-of.of ∷ []) in
      subst (λ ps. (class : ℕ) → class < i + 1 → R class (get_or ps class [])) (sym pushed)
      (one_class_more R i before (names_of c.in_ok-of.of) long (c.loop-class.invariant.parts net n is are one other of so first second) (c.in_ok-of.ensures net n is are one other of so first second));
}

pub returns-clause-as_long : goal.returns-clause-as_long
returns-clause-as_long c = omega (arith, c.loop-class.invariant.as_long, c.loop-class-test.false, c.loop-class.auto.class-end, c.requires.as_long)

pub returns-clause-parts : goal.returns-clause-parts
returns-clause-parts c net n is are one other of so first second class below =
    c.loop-class.invariant.parts net n is are one other of so first second class (subst (λ k. class < k) (c.loop-class.parts.ok.0 ∙ c.loop-class.invariant.as_long) below)

pub parts_by_pair-requires-clause-others : goal.parts_by_pair-requires-clause-others
parts_by_pair-requires-clause-others c off =
    let i : ℕ = c.loop-class.class in
    let below : i < length c.args.breaking.now = omega (arith, c.loop-class-test.true, c.loop-class.auto.class-end) in
    c.requires.others i (get_or_default c.args.breaking.now i true false below ∙ off)
