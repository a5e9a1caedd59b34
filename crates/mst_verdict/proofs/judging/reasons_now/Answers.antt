use Rattle.std.proofs.Common.{[], None, subst, sym}
use Rattle.std.proofs.lemmas.Result.{IfOk-weaker}
use Rattle.mst_policy.specs.Leaving.{sets_of}
use Rattle.mst_sweeping.specs.sweep.vlan.classes.Classes.{AreClasses, AreInSame}
use Rattle.mst_forest.specs.Settled.{SettledNet}
use Rattle.mst_telling.specs.Judged.{reasons_in}
use Rattle.mst_verify.specs.tree_judges.judged.Islands.{HasIslandsOf, IsOfPlan}
use Rattle.mst_verify.specs.tree_judges.judged.Seen.{IsBefore}
use Rattle.mst_verdict.specs.Verifying.{AreLacking, AreReasonsThere}
use Rattle.mst_verdict.proofs.Judgements.{as_many, kept_of, lines_now, not_kept}
use Rattle.mst_verdict.proofs.judging.reasons_now.Goals as goal

pub beside-requires-clause-classes : goal.beside-requires-clause-classes
beside-requires-clause-classes c = subst (λ (s : SettledNet). AreClasses s.view c.args.judging.now.before.now.classes) (sym c.new-plan.ensures) c.requires.judging.classes

pub beside-requires-clause-islands : goal.beside-requires-clause-islands
beside-requires-clause-islands c =
    let j = c.args.judging.now in
    subst (λ (s : SettledNet). HasIslandsOf j.carriage.now s.numbers j.before.now) (sym c.new-plan.ensures) c.requires.judging.islands

pub looking_back-back-requires : goal.looking_back-back-requires
looking_back-back-requires c = let j = c.args.judging.now in as_many c.args.network.now.net j.is_last j.lines.now j.missing.now c.requires.judging.lacking

pub new-requires : goal.new-requires
new-requires c = subst (λ (s : SettledNet). IsOfPlan s c.args.judging.now.carriage.now) (sym c.new-plan.ensures) c.requires.judging.carriage

pub judge_now-requires-clause-lacking : goal.judge_now-requires-clause-lacking
judge_now-requires-clause-lacking c = let j = c.args.judging.now in subst (λ (s : SettledNet). AreLacking s.net j.is_last j.lines.now j.missing.now) (sym c.new-plan.ensures) c.requires.judging.lacking

pub judge_now-requires-clause-before : goal.judge_now-requires-clause-before
judge_now-requires-clause-before c = subst (λ (s : SettledNet). IsBefore s.net c.args.judging.now.before.now) (sym c.new-plan.ensures) c.requires.judging.before

pub judge_now-requires-clause-prior : goal.judge_now-requires-clause-prior
judge_now-requires-clause-prior c = tt

pub judge_now-requires-in-Some-clause-lacking : goal.judge_now-requires-in-Some-clause-lacking
judge_now-requires-in-Some-clause-lacking c = let j = c.args.judging.now in subst (λ (s : SettledNet). AreLacking s.net j.is_last j.lines.now j.missing.now) (sym c.new-plan.ensures) c.requires.judging.lacking

pub judge_now-requires-in-Some-clause-before : goal.judge_now-requires-in-Some-clause-before
judge_now-requires-in-Some-clause-before c = subst (λ (s : SettledNet). IsBefore s.net c.args.judging.now.before.now) (sym c.new-plan.ensures) c.requires.judging.before

pub judge_now-requires-in-Some-clause-prior : goal.judge_now-requires-in-Some-clause-prior
judge_now-requires-in-Some-clause-prior c = c.beside-prior.ensures.beside

pub judge_now-requires-clause-same : goal.judge_now-requires-clause-same
judge_now-requires-clause-same c = tt

pub judge_now-requires-in-Some-clause-same : goal.judge_now-requires-in-Some-clause-same
judge_now-requires-in-Some-clause-same c = subst (AreInSame (sets_of c.args.judging.now.leaving.now)) (sym c.beside-prior.ensures.classes) c.in_ok-beside-in-Some.ensures.same

pub returns-in-None : goal.returns-in-None
returns-in-None c =
    let t = c.args.network.now in
    let j = c.args.judging.now in
    IfOk-weaker c.judge_now.result _ _
    (λ all said prior is. lines_now j t.net t.numbers prior is j.lines.now (reasons_in all)
    (subst (λ (s : SettledNet). AreReasonsThere j s.net s s.net [] prior None (reasons_in all)) c.new-plan.ensures (said prior (not_kept j.prior j.leaving.now prior c.in-None.is is))))
    c.judge_now.ensures

pub returns : goal.returns
returns c =
    let t = c.args.network.now in
    let j = c.args.judging.now in
    IfOk-weaker c.judge_now-in-Some.result _ _
    (λ all said prior is. lines_now j t.net t.numbers prior is j.lines.now (reasons_in all)
    (subst (λ (s : SettledNet). AreReasonsThere j s.net s s.net [] prior None (reasons_in all)) c.new-plan.ensures
    (said prior (kept_of j.prior c.in-Some.old c.beside-prior.result j.leaving.now prior c.in-Some.is c.beside-prior.ensures.old is))))
    c.judge_now-in-Some.ensures
