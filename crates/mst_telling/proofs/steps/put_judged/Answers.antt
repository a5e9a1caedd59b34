use Rattle.std.proofs.Common.{List}
use Rattle.std.specs.Result.{OnOk}
use Rattle.mst_rows.specs.Rows.{Row}
use Rattle.mst_policy.specs.declared.policy.PolicyLine.{PolicyLine}
use Rattle.mst_telling.specs.Judged.{change_at, each_from}
use Rattle.mst_telling.proofs.Lines.{changes_at}
use Rattle.mst_telling.proofs.NewRows.{put_three}
use Rattle.mst_telling.proofs.steps.put_judged.Goals as goal

pub returns : goal.returns
returns g c first rows grew =
    put_three (λ (all : List Row). OnOk c.put_all_mends.result (g.R.Rows.grew first c.put_all_mends.new.out all)) c.args.step rows (each_from (λ n (line : PolicyLine). change_at n line c.args.before.now c.args.now.now) 0 c.args.lines.now) _ (changes_at c.args.before.now c.args.now.now c.args.lines.now)
    (c.put_all_mends.ensures first _ (c.in_ok-put_all_fails.ensures first _ (c.in_ok-put_all_refused.ensures first rows grew)))
