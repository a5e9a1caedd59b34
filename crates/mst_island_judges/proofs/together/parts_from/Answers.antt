use Rattle.std.proofs.Common.{◌≡◌, ◌+◌, ◌<◌, ℕ, List, get_or, Some, ap, subst, ◌∙◌, arith, rules}
use Rattle.std.specs.Prelude.{MatchOption, ⊤}
use Rattle.std.proofs.lemmas.Grind.{common_steps}
use Rattle.std.proofs.lemmas.Result.{IfOk-weaker}
use Rattle.mst_forest.specs.Settled.{outcome_of}
use Rattle.mst_judged.specs.reasons.sweep.Baseline.{AreHomes}
use Rattle.mst_judged.specs.reasons.sweep.Cuts.{names_of}
use Rattle.mst_judged.specs.Islands.{kept_in}
use Rattle.mst_island_judges.proofs.BesideParts.{beside_parts_of}
use Rattle.mst_judged.proofs.StillMade.{made_places}
use Rattle.mst_judged.proofs.VidReasons.{class_below}
use Rattle.mst_island_judges.proofs.together.parts_from.Goals as goal

pub offset_bounds-firsts-class : goal.offset_bounds-firsts-class
offset_bounds-firsts-class c =
    let prior = c.args.compared.now.prior.now in
    let low : c.args.class < 4094 = class_below prior.old.now.view prior.classes.now c.requires.beside.old_classes c.args.class c.requires.there in
    omega arith

pub returns-in-Some : goal.returns-in-Some
returns-in-Some c = IfOk-weaker c.parts_by.result _ _
    (λ parts told.
    let compared = c.args.compared.now in
    let s = compared.judged.now.plan.now in
    let prior = compared.prior.now in
    let i : ℕ = c.args.class in
    let firsts : List ℕ = prior.classes.now.firsts.items in
    let kept : kept_in prior.news.now i ≡ Some c.in-Some.news.now.entries = subst (λ o. MatchOption o ⊤ (λ h. kept_in prior.news.now i ≡ Some h.now.entries)) c.in-Some.is c.kept_at.ensures in
    let read : c.unwrap-vid.result ≡ get_or c.as_slice-firsts.result.now i 0 + 1 = first_of (grind (arith, common_steps), search (rules, common_steps)) in
    let vid : c.unwrap-vid.result ≡ get_or firsts i 0 + 1 = read ∙ ap (λ xs. get_or xs i 0 + 1) c.as_slice-firsts.ensures.value in
    beside_parts_of s c.known.ensures prior.old.now compared.judged.now.leaving.now compared.judged.now.lost.now compared.names.now c.unwrap-vid.result (get_or firsts i 0 + 1) vid c.args.olds.now.entries c.in-Some.news.now.entries
    c.requires.olds (made_places s firsts prior.news.now c.requires.beside.news i c.in-Some.news.now.entries c.requires.there kept) compared.both.now compared.are_both (names_of parts) told) c.parts_by.ensures

pub returns : goal.returns
returns c = IfOk-weaker c.parts_by-2.result _ _
    (λ parts told.
    let compared = c.args.compared.now in
    let s = compared.judged.now.plan.now in
    let prior = compared.prior.now in
    let i : ℕ = c.args.class in
    let firsts : List ℕ = prior.classes.now.firsts.items in
    let read : c.unwrap-vid.result ≡ get_or c.as_slice-firsts.result.now i 0 + 1 = first_of (grind (arith, common_steps), search (rules, common_steps)) in
    let vid : c.unwrap-vid.result ≡ get_or firsts i 0 + 1 = read ∙ ap (λ xs. get_or xs i 0 + 1) c.as_slice-firsts.ensures.value in
    beside_parts_of s c.known.ensures prior.old.now compared.judged.now.leaving.now compared.judged.now.lost.now compared.names.now c.unwrap-vid.result (get_or firsts i 0 + 1) vid c.args.olds.now.entries c.in_ok-news.news.entries c.requires.olds
    (subst (λ v. AreHomes s.net s.numbers (outcome_of s) v c.in_ok-news.news.entries) vid c.in_ok-news.ensures) compared.both.now compared.are_both (names_of parts) told) c.parts_by-2.ensures
