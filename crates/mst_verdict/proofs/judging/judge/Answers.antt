use Rattle.std.proofs.Common.{◌≡◌, List, [], length, ap, sym, subst, ◌∙◌}
use Rattle.std.proofs.lemmas.Bool.{eqb-true}
use Rattle.std.proofs.lemmas.List.{nil_from_length}
use Rattle.std.proofs.lemmas.Result.{IfOk-weaker}
use Rattle.mst_policy.specs.declared.policy.PolicyLine.{PolicyLine}
use Rattle.mst_verify.specs.tree_judges.judged.reasons.Risks.{all_events, events}
use Rattle.mst_telling.specs.Judged.{told_in}
use Rattle.mst_telling.proofs.Lines.{told_there}
use Rattle.mst_verdict.specs.Verifying.{Judges, plan_outcome}
use Rattle.mst_verdict.proofs.Judgements.{plan_settled}
use Rattle.mst_verdict.proofs.OneJudgement.{all_due}
use Rattle.mst_verdict.proofs.judging.judge.Goals as goal

pub returns-then-is_empty : goal.returns-then-is_empty
returns-then-is_empty c = λ before is.
    let old = c.args.network.now in
    let none : c.args.lines.now ≡ [] = nil_from_length c.args.lines.now (eqb-true (length c.args.lines.now) 0 (sym c.is_empty.ensures ∙ c.if-is_empty.true)) in
    subst (λ (lines : List PolicyLine). Judges old.net before c.args.is_last lines (told_in lines c.none.result)) (sym none)
    (record { outcome = plan_outcome old.net old.numbers c.args.plan.now; is_outcome = plan_settled old.net old.numbers c.args.plan.now c.requires; are = tt; unkept = tt })

pub judge_lines-requires-clause-events : goal.judge_lines-requires-clause-events
judge_lines-requires-clause-events c =
    c.as_slice.ensures.value ∙ c.in_ok-events.ensures ∙ ap all_events (c.in_ok-hazards.ensures c.args.network.now.net c.args.network.now.numbers c.requires.of.view)

pub returns : goal.returns
returns c =
    let old = c.args.network.now in
    let o = plan_outcome old.net old.numbers c.args.plan.now in
    IfOk-weaker c.judge_lines.result _ _
    (λ judgement judged before is. record {
      outcome = o;
      is_outcome = plan_settled old.net old.numbers c.args.plan.now c.requires;
      are = told_there old.net o before c.args.is_last judgement c.args.lines.now (judged before is);
      unkept =
          all_due c.args.is_last old.net o before (events old.net c.args.lines.now) (λ line rows told. c.line_where_unkept.ensures old.net o before (events old.net c.args.lines.now) line rows c.requires.of.network (plan_settled old.net old.numbers c.args.plan.now c.requires) told) c.args.lines.now
          (told_in c.args.lines.now judgement) (told_there old.net o before c.args.is_last judgement c.args.lines.now (judged before is));
    })
    c.judge_lines.ensures
