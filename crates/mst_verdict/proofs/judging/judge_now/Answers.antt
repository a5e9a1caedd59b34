use Rattle.std.proofs.Common.{None}
use Rattle.std.proofs.lemmas.Result.{IfOk-weaker}
use Rattle.mst_verdict.proofs.Judgements.{as_many, have_lans}
use Rattle.mst_verdict.proofs.judging.judge_now.Goals as goal

pub judge_place-requires-clause-missing : goal.judge_place-requires-clause-missing
judge_place-requires-clause-missing c = let j = c.args.judging.now in as_many c.args.plan.now.net j.is_last j.lines.now j.missing.now c.requires.lacking

pub judge_place-requires-clause-lans : goal.judge_place-requires-clause-lans
judge_place-requires-clause-lans c = let net = c.args.plan.now.net in (net, c.requires.lacking, have_lans c.args.judging.now net None)

pub returns : goal.returns
returns c =
    let net = c.args.plan.now.net in
    IfOk-weaker c.judge_place.result _ _ (λ all said before kept. said net net before c.requires.lacking c.requires.before kept) c.judge_place.ensures
