use Rattle.std.proofs.Common.{◌≡◌, ◌+◌, ◌∷◌, [], List, None, Option, get_or, map, take, sym, ap, subst, ◌∙◌}
use Rattle.std.specs.List.{AllZip}
use Rattle.std.proofs.lemmas.List.{map-append, take_all}
use Rattle.mst_forest.specs.Settled.{outcome_of}
use Rattle.mst_policy.specs.declared.expectation.Expectation.{Expectation}
use Rattle.mst_policy.specs.declared.policy.PolicyLine.{PolicyLine}
use Rattle.mst_telling.specs.Judged.{reasons_in}
use Rattle.mst_verify.specs.tree_judges.judged.reasons.declared.reason.Reason.{Reason}
use Rattle.mst_verdict.specs.Verifying.{AreReasonsIf, expected_in}
use Rattle.mst_verdict.proofs.Judgements.{expected_so, lacks_at, zip_more}
use Rattle.mst_verdict.proofs.judging.judge_place.Goals as goal

pub line_reasons-requires-clause-lan : goal.line_reasons-requires-clause-lan
line_reasons-requires-clause-lan c = λ e h.
    let j = c.args.judging.now in
    let n = c.loop-n.n in
    let line : PolicyLine = get_or j.lines.now n c.index-judging-n.result in
    let line_is : line ≡ get_or j.lines.now n line = ap (get_or j.lines.now n) c.index-judging-n.is in
    let lans = c.requires.lans in
    let place = c.args.place.now in
    lans.2 line e (sym (expected_so j lans.0 line (get_or j.missing.now n None) place (lacks_at lans.0 j.is_last j.lines.now j.missing.now lans.1 n line None c.loop-n-test.true line_is)) ∙ h)

pub loop-n-preserved : goal.loop-n-preserved
loop-n-preserved c = λ net before prior are is kept.
    let j = c.args.judging.now in
    let s = c.args.judged.now.plan.now in
    let lost = c.args.judged.now.lost.now in
    let place = c.args.place.now in
    let n = c.loop-n.n in
    let line : PolicyLine = get_or j.lines.now n c.index-judging-n.result in
    let line_is : line ≡ get_or j.lines.now n line = ap (get_or j.lines.now n) c.index-judging-n.is in
    let those = c.in_ok-line_reasons.field-0.items in
    let R : PolicyLine → List Reason → Type 0 = λ line those. AreReasonsIf s.net (outcome_of s) before lost prior (expected_in j net line place) those in
    let here : R line those =
    subst (λ (e : Option Expectation). AreReasonsIf s.net (outcome_of s) before lost prior e those)
    (expected_so j net line (get_or j.missing.now n None) place (lacks_at net j.is_last j.lines.now j.missing.now are n line None c.loop-n-test.true line_is)) (c.in_ok-line_reasons.ensures before prior is kept) in
    subst (λ items. AllZip R (take (n + 1) j.lines.now) (map (λ those. those.items) items)) (sym c.in_ok-push.ensures.items)
    (subst (AllZip R (take (n + 1) j.lines.now)) (sym (map-append (λ those. those.items) c.loop-n.all.items (c.in_ok-line_reasons.field-0 ∷ [])))
    (zip_more R j.lines.now n line (reasons_in c.loop-n.all) those c.loop-n-test.true line_is (c.loop-n.invariant net before prior are is kept) here))

pub returns : goal.returns
returns c = λ net before prior are is kept.
    let j = c.args.judging.now in
    let s = c.args.judged.now.plan.now in
    subst (λ (l : List PolicyLine). AllZip (λ line those. AreReasonsIf s.net (outcome_of s) before c.args.judged.now.lost.now prior (expected_in j net line c.args.place.now) those) l (reasons_in c.loop-n.all))
    (take_all c.loop-n.n j.lines.now c.loop-n-test.false) (c.loop-n.invariant net before prior are is kept)
