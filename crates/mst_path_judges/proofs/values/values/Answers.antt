use Rattle.std.proofs.Common.{◌≡◌, ◌+◌, ◌<◌, ◌≤◌, ℕ, List, [], ◌∷◌, Option, None, length, map, take, sym, ap, subst, ◌∙◌, arith}
use Rattle.std.proofs.lemmas.Grind.{common_steps}
use Rattle.std.proofs.lemmas.List.{length-map, map-append}
use Rattle.mst_roles.specs.forest.Settled.{outcome_of}
use Rattle.mst_judged.proofs.ClassValues.{values_more, values_all}
use Rattle.mst_judged.specs.Valued.{AreValuesOf}
use Rattle.mst_judged.specs.reasons.Stretches.{Stretch}
use Rattle.mst_path_judges.specs.Asked.{HasTold, told_of}
use Rattle.mst_path_judges.specs.declared.stretch.Stretch as kept
use Rattle.mst_path_judges.proofs.values.values.Goals as goal

pub loop-class-preserved : goal.loop-class-preserved
loop-class-preserved c = record {
  as_long = grind (arith, common_steps);
  told =
      let s = c.args.judged.now.plan.now in
      let i : ℕ = c.loop-class.class in
      let firsts : List ℕ = c.args.judged.now.before.now.classes.firsts.items in
      let flags = c.args.flags.now in
      let before : List (Option kept.Stretch) = c.loop-class.values.items in
      let value = c.in_ok-told.told in
      let R : ℕ → Option Stretch → Type 0 = HasTold s.net (outcome_of s) c.args.asked.now in
      let below : i < length firsts = omega (arith, c.loop-class-test.true, c.requires.flags) in
      let pushed = ap (map told_of) c.in_ok-push.ensures.items ∙ map-append told_of before (value ∷ []) in
      subst (AreValuesOf None R (take (i + 1) firsts) flags) (sym pushed)
      (values_more None R firsts flags i (map told_of before) (told_of value) below (length-map before told_of ∙ c.loop-class.invariant.as_long) c.in_ok-told.ensures c.loop-class.invariant.told);
}

pub returns-clause-told : goal.returns-clause-told
returns-clause-told c =
    let s = c.args.judged.now.plan.now in
    let firsts : List ℕ = c.args.judged.now.before.now.classes.firsts.items in
    let past : length firsts ≤ c.loop-class.class = omega (arith, c.loop-class-test.false, c.requires.flags) in
    values_all None (HasTold s.net (outcome_of s) c.args.asked.now) firsts c.args.flags.now c.loop-class.class (map told_of c.loop-class.values.items) past c.loop-class.invariant.told
