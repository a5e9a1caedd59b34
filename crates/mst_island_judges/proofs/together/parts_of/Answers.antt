use Rattle.std.proofs.Common.{Vec, Global, ◌≡◌, ◌+◌, ◌<◌, ℕ, List, get_or, map, Some, sym, ap, subst, ◌∙◌, arith, rules}
use Rattle.std.specs.Prelude.{MatchOption, ⊤}
use Rattle.std.proofs.lemmas.Grind.{common_steps}
use Rattle.mst_judged.specs.reasons.sweep.vlan.Carried.{ViewWithTrees}
use Rattle.mst_forest.specs.Settled.{outcome_of}
use Rattle.mst_judged.specs.reasons.sweep.Baseline.{AreHomes}
use Rattle.mst_island_judges.specs.Compared.{HaveParts}
use Rattle.mst_judged.specs.Islands.{kept_in}
use Rattle.mst_island_judges.proofs.BesideParts.{beside_none}
use Rattle.mst_judged.proofs.HomesMade.{homes_told}
use Rattle.mst_judged.proofs.StillMade.{made_places}
use Rattle.mst_judged.proofs.VidReasons.{class_below}
use Rattle.mst_island_judges.proofs.together.parts_of.Goals as goal

pub returns-then-is_alike : goal.returns-then-is_alike
returns-then-is_alike c =
    let compared = c.args.compared.now in
    let prior = compared.prior.now in
    subst (HaveParts compared (get_or prior.classes.now.firsts.items c.args.class 0 + 1)) (sym (ap (map (λ (names : Vec (List ℕ) Global). names.items)) c.new.ensures.items))
    (beside_none compared.judged.now.plan.now c.known.ensures prior.old.now compared.judged.now.leaving.now compared.judged.now.lost.now compared.names.now c.islands_of_vid.ensures.some (get_or prior.classes.now.firsts.items c.args.class 0 + 1)
    (c.requires.beside.alike c.args.class c.requires.there (c.is_alike.ensures c.if-is_alike.true)))

pub parts_from-requires-clause-olds : goal.parts_from-requires-clause-olds
parts_from-requires-clause-olds c t is of =
    let prior = c.args.compared.now.prior.now in
    let i : ℕ = c.args.class in
    let kept : kept_in prior.olds.now i ≡ Some c.in-Some.olds.now.entries = subst (λ o. MatchOption o ⊤ (λ h. kept_in prior.olds.now i ≡ Some h.now.entries)) c.in-Some.is c.kept_at.ensures in
    made_places t prior.classes.now.firsts.items prior.olds.now (c.requires.beside.olds t is of) i c.in-Some.olds.now.entries c.requires.there kept

pub offset_bounds-firsts-class : goal.offset_bounds-firsts-class
offset_bounds-firsts-class c =
    let prior = c.args.compared.now.prior.now in
    let low : c.args.class < 4094 = class_below prior.old.now.view prior.classes.now c.requires.beside.old_classes c.args.class c.requires.there in
    omega arith

pub parts_from-requires-2-clause-olds : goal.parts_from-requires-2-clause-olds
parts_from-requires-2-clause-olds c t is of =
    let prior = c.args.compared.now.prior.now in
    let from : ViewWithTrees = prior.old.now in
    let i : ℕ = c.args.class in
    let firsts : List ℕ = prior.classes.now.firsts.items in
    let read : c.unwrap-vid.result ≡ get_or c.as_slice-firsts.result.now i 0 + 1 = first_of (grind (arith, common_steps), search (rules, common_steps)) in
    let vid : c.unwrap-vid.result ≡ get_or firsts i 0 + 1 = read ∙ ap (λ xs. get_or xs i 0 + 1) c.as_slice-firsts.ensures.value in
    subst (λ v. AreHomes t.net t.numbers (outcome_of t) v c.in_ok-olds.olds.entries) vid
    (homes_told t is from.view from.forest (ap (λ (c : ViewWithTrees). c.view) of) (ap (λ (c : ViewWithTrees). c.forest) of) c.unwrap-vid.result c.in_ok-olds.olds.entries c.in_ok-olds.ensures)
