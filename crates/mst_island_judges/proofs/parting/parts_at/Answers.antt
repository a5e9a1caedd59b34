use Rattle.std.proofs.Common.{◌≡◌, ◌+◌, ◌<◌, ℕ, List, get_or, length, sym, ap, subst, ◌∙◌, arith, rules}
use Rattle.std.proofs.lemmas.Grind.{common_steps}
use Rattle.std.proofs.lemmas.Result.{IfOk-weaker}
use Rattle.mst_forest.specs.Settled.{outcome_of}
use Rattle.std.specs.Prelude.{MatchOption, ⊤}
use Rattle.mst_judged.specs.reasons.sweep.Cuts.{names_of}
use Rattle.mst_judged.specs.Islands.{AreReachParts, StillTells}
use Rattle.mst_judged.specs.reasons.Seen.{names_in}
use Rattle.mst_judged.proofs.HomeParts.{homes_tell}
use Rattle.mst_judged.proofs.VidReasons.{class_below}
use Rattle.mst_judged.proofs.HomesMade.{made_homes, made_there}
use Rattle.mst_island_judges.proofs.parting.parts_at.Goals as goal

pub bounds-made-class : goal.bounds-made-class
bounds-made-class c =
    let before = c.args.judged.now.before.now in
    let homes = c.args.judged.now.homes.now in
    subst (λ made. c.args.class < length made) (sym c.as_slice-made.ensures.value) (made_there c.args.judged.now.plan.now before.classes.firsts.items homes.made.items c.requires.kept.made c.args.class c.requires.there)

pub offset_bounds-made-class : goal.offset_bounds-made-class
offset_bounds-made-class c =
    let low : c.args.class < 4094 = class_below c.args.judged.now.plan.now.view c.args.judged.now.before.now.classes c.requires.kept.classes c.args.class c.requires.there in
    omega arith

pub returns-in-Some : goal.returns-in-Some
returns-in-Some c = IfOk-weaker c.parts.result _ _
    (λ parts told.
    let s = c.args.judged.now.plan.now in
    let firsts : List ℕ = c.args.judged.now.before.now.classes.firsts.items in
    let made = c.args.judged.now.homes.now.made.items in
    let i : ℕ = c.args.class in
    let o = c.index-made-class.result in
    let read : o ≡ get_or made i o = c.index-made-class.is ∙ ap (λ ms. get_or ms i o) c.as_slice-made.ensures.value in
    let vid : ℕ = get_or firsts i 0 + 1 in
    told s.net s.numbers (outcome_of s) vid c.requires.bridges
    (homes_tell s.net s.numbers (outcome_of s) vid c.known.ensures.of.numbered c.in-Some.homes.entries (made_homes s firsts made c.requires.kept.made i o c.in-Some.homes c.requires.there read c.in-Some.is))) c.parts.ensures

pub returns-in-Some-still : goal.returns-in-Some-still
returns-in-Some-still c = IfOk-weaker c.parts-in-Some-still.result _ _
    (λ parts told.
    let s = c.args.judged.now.plan.now in
    let firsts : List ℕ = c.args.judged.now.before.now.classes.firsts.items in
    let i : ℕ = c.args.class in
    let tells = subst (λ o. MatchOption o ⊤ (λ h. StillTells c.args.judged.now.before.now c.args.judged.now.homes.now i h.now.entries)) c.in-Some-still.is c.still.ensures in
    told s.net s.numbers (outcome_of s) (get_or firsts i 0 + 1) c.requires.bridges (c.requires.kept.still i c.in-Some-still.homes.now.entries c.requires.there tells)) c.parts-in-Some-still.ensures

pub returns : goal.returns
returns c = IfOk-weaker c.parts-2.result _ _
    (λ parts told.
    let s = c.args.judged.now.plan.now in
    let firsts : List ℕ = c.args.judged.now.before.now.classes.firsts.items in
    let i : ℕ = c.args.class in
    let read : c.unwrap-vid.result ≡ get_or c.as_slice-firsts.result.now i 0 + 1 = first_of (grind (arith, common_steps), search (rules, common_steps)) in
    let vid : c.unwrap-vid.result ≡ get_or firsts i 0 + 1 = read ∙ ap (λ xs. get_or xs i 0 + 1) c.as_slice-firsts.ensures.value in
    subst (λ vid. AreReachParts s.net (outcome_of s) (names_in c.args.bridges.now) vid (names_of parts)) vid
    (told s.net s.numbers (outcome_of s) c.unwrap-vid.result c.requires.bridges
    (homes_tell s.net s.numbers (outcome_of s) c.unwrap-vid.result c.known.ensures.of.numbered c.in_ok-homes.homes.entries c.in_ok-homes.ensures))) c.parts-2.ensures
