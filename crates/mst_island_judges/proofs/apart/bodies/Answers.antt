use Rattle.std.proofs.Common.{Vec, Global, ◌+◌, ◌<◌, ◌≤◌, ℕ, List, [], ◌∷◌, length, map, take, sym, ap, subst, ◌∙◌, arith}
use Rattle.std.specs.Option.{option_copied}
use Rattle.std.proofs.lemmas.Grind.{common_steps}
use Rattle.std.proofs.lemmas.List.{length-map, map-append}
use Rattle.mst_forest.specs.Settled.{outcome_of}
use Rattle.mst_judged.specs.reasons.sweep.Cuts.{names_of}
use Rattle.mst_judged.specs.Islands.{AreOfClasses}
use Rattle.mst_judged.specs.reasons.Named.{named}
use Rattle.mst_judged.specs.reasons.Reasons.{AreBoth, Parts}
use Rattle.mst_island_judges.proofs.ClassParts.{classes_more, classes_all}
use Rattle.mst_island_judges.specs.Seen.{others_in}
use Rattle.mst_island_judges.proofs.apart.bodies.Goals as goal

pub loop-class-preserved : goal.loop-class-preserved
loop-class-preserved c = record {
  as_long = grind (arith, common_steps);
  parts =
      let s = c.args.judged.now.plan.now in
      let i : ℕ = c.loop-class.class in
      let firsts : List ℕ = c.args.judged.now.before.now.classes.firsts.items in
      let flags = c.args.flags.now in
      let before : List (Vec (Vec (List ℕ) Global) Global) = c.loop-class.bodies.items in
      let body = c.in_ok-both.both in
      let R : ℕ → Parts → Type 0 = AreBoth s.net (outcome_of s) (named s.net c.args.judged.now.lost.now c.args.names.now) (others_in s.net c.args.judged.now.lost.now c.args.names.now (option_copied c.args.others)) in
      let below : i < length firsts = omega (arith, c.loop-class-test.true, c.requires.flags) in
      let pushed = ap (map names_of) c.in_ok-push.ensures.items ∙ map-append names_of before (body ∷ []) in
      subst (AreOfClasses R (take (i + 1) firsts) flags) (sym pushed)
      (classes_more R firsts flags i (map names_of before) (names_of body) below (length-map before names_of ∙ c.loop-class.invariant.as_long) c.in_ok-both.ensures c.loop-class.invariant.parts);
}

pub returns-clause-parts : goal.returns-clause-parts
returns-clause-parts c =
    let s = c.args.judged.now.plan.now in
    let firsts : List ℕ = c.args.judged.now.before.now.classes.firsts.items in
    let past : length firsts ≤ c.loop-class.class = omega (arith, c.loop-class-test.false, c.requires.flags) in
    classes_all (AreBoth s.net (outcome_of s) (named s.net c.args.judged.now.lost.now c.args.names.now) (others_in s.net c.args.judged.now.lost.now c.args.names.now (option_copied c.args.others))) firsts c.args.flags.now c.loop-class.class (map names_of c.loop-class.bodies.items) past c.loop-class.invariant.parts
