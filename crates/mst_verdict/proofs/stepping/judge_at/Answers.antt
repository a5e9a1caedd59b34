use Rattle.std.proofs.Common.{◌==◌, None, Some, sym}
use Rattle.mst_verify.specs.tree_judges.judged.reasons.Named.{Prior}
use Rattle.mst_verdict.specs.Verifying.{IsPrior, Judges}
use Rattle.mst_verdict.specs.Stepping.{AreRowsIn, Watch, prior_at}
use Rattle.mst_verdict.specs.Taking.{IsWatching}
use Rattle.mst_sweeping.proofs.Swept.{if_ok}
use Rattle.mst_telling.specs.Judged.{told_in}
use Rattle.mst_verdict.proofs.Watched.{judged_first, judged_later}
use Rattle.mst_verdict.proofs.stepping.judge_at.Goals as goal

pub returns-then-number-eq0 : goal.returns-then-number-eq0
returns-then-number-eq0 c =
    let j = c.args.watching.now in
    let n = c.args.number in
    let net = c.args.network.now.net in
    if_ok c.judge.result (λ judgement. (before : Prior) → IsPrior None j.leaving.now before → Judges net before (n == j.last) j.lines.now (told_in j.lines.now judgement))
    (λ judgement. (w : Watch) → IsWatching j w → AreRowsIn w n net (told_in w.lines judgement)) (λ judgement said w is. judged_first j w is net n judgement c.if-number-eq0.true (said (prior_at w 0) (tt, sym is.leaving))) c.judge.ensures

pub returns-else-number-eq0 : goal.returns-else-number-eq0
returns-else-number-eq0 c =
    let j = c.args.watching.now in
    let n = c.args.number in
    let net = c.args.network.now.net in
    if_ok c.judge-else-number-eq0.result (λ judgement. (before : Prior) → IsPrior (Some j.first.now) j.leaving.now before → Judges net before (n == j.last) j.lines.now (told_in j.lines.now judgement))
    (λ judgement. (w : Watch) → IsWatching j w → AreRowsIn w n net (told_in w.lines judgement))
    (λ judgement said w is. judged_later j w is net n judgement c.if-number-eq0.false (said (prior_at w 1) (is.prior, sym is.leaving))) c.judge-else-number-eq0.ensures
