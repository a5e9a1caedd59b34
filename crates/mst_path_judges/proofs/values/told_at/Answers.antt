use Rattle.std.proofs.Common.{◌≡◌, ◌+◌, ◌<◌, ℕ, List, get_or, ap, subst, ◌∙◌, arith, rules}
use Rattle.std.proofs.lemmas.Grind.{common_steps}
use Rattle.std.proofs.lemmas.Result.{IfOk-weaker}
use Rattle.mst_roles.specs.forest.Settled.{outcome_of}
use Rattle.mst_judged.proofs.VidReasons.{class_below}
use Rattle.mst_path_judges.specs.Asked.{HasTold, told_of}
use Rattle.mst_path_judges.proofs.values.told_at.Goals as goal

pub offset_bounds-firsts-class : goal.offset_bounds-firsts-class
offset_bounds-firsts-class c =
    let low : c.args.class < 4094 = class_below c.args.judged.now.plan.now.view c.args.judged.now.before.now.classes c.requires.classes c.args.class c.requires.there in
    omega arith

pub returns : goal.returns
returns c = IfOk-weaker c.told.result _ _
    (λ stretch said flag.
    let s = c.args.judged.now.plan.now in
    let firsts : List ℕ = c.args.judged.now.before.now.classes.firsts.items in
    let i : ℕ = c.args.class in
    let read : c.unwrap-vid.result ≡ get_or c.as_slice-firsts.result.now i 0 + 1 = first_of (grind (arith, common_steps), search (rules, common_steps)) in
    let vid : c.unwrap-vid.result ≡ get_or firsts i 0 + 1 = read ∙ ap (λ xs. get_or xs i 0 + 1) c.as_slice-firsts.ensures.value in
    subst (λ vid. HasTold s.net (outcome_of s) c.args.asked.now vid (told_of stretch)) vid said) c.told.ensures
