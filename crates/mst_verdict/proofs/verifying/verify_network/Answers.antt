use Rattle.std.proofs.Common.{ap, sym, ◌∙◌}
use Rattle.std.proofs.lemmas.Result.{IfOk-weaker}
use Rattle.mst_verdict.specs.Verifying.{plan_outcome}
use Rattle.mst_verify.specs.tree_judges.judged.reasons.Named.{nothing_before}
use Rattle.mst_verify.specs.tree_judges.judged.reasons.Risks.{all_events, events}
use Rattle.mst_telling.specs.Verified.{IsToldWhereBroken, IsVerdict}
use Rattle.mst_verdict.proofs.Judgements.{plan_settled, zip_weaker}
use Rattle.mst_verdict.proofs.verifying.verify_network.Goals as goal

pub judge_lines-requires-clause-events : goal.judge_lines-requires-clause-events
judge_lines-requires-clause-events g c = c.as_slice.ensures.value ∙ c.in_ok-events.ensures ∙ ap all_events (c.in_ok-hazards.ensures c.args.network.now.net c.args.network.now.numbers c.requires.of.view)

pub returns-clause-told : goal.returns-clause-told
returns-clause-told g c =
    let old = c.args.network.now in
    let o = plan_outcome old.net old.numbers c.args.plan.now in
    let those = events old.net c.args.lines.now in
    let all = c.as_slice-2.ensures.value ∙ c.in_ok-events.ensures ∙ ap all_events (c.in_ok-hazards.ensures old.net old.numbers c.requires.of.view) in
    IfOk-weaker c.put_verdict.result _ _
    (λ verdict told.
    let t = told old.net o all (c.in_ok-judgement.ensures nothing_before (tt, sym c.none-leaving.ensures)) in (t.0, record { outcome = o; is_outcome = plan_settled old.net old.numbers c.args.plan.now c.requires; told = t.1; broken = zip_weaker (IsVerdict old.net o those) (IsToldWhereBroken old.net o those) (λ line rows is. c.told_where_unkept.ensures old.net o those line rows c.requires.of.network (plan_settled old.net old.numbers c.args.plan.now c.requires) is) c.args.lines.now t.1.told t.1.each }, t.2))
    c.put_verdict.ensures.told
