use Rattle.std.proofs.Common.{◌∙◌}
use Rattle.mst_advise.proofs.ContestRows.{contest_said}
use Rattle.mst_advise.proofs.contests.contest_in.Goals as goal

pub returns-in-len4-up : goal.returns-in-len4-up
returns-in-len4-up c =
    c.contest_by.ensures ∙ contest_said c.args.line c.args.values.now c.winner-item.result c.loser-item.result c.in-len4-up.len_at_least c.winner-item.is c.loser-item.is
