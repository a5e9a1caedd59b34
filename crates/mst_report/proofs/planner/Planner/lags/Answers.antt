use Rattle.std.proofs.Common.{refl}
use Rattle.std.proofs.lemmas.Result.{on_ok_weaker}
use Rattle.mst_plan_text.specs.text.LagText.{lags_rows}
use Rattle.mst_report.proofs.planner.Planner.lags.Goals as goal

pub returns : goal.returns
returns g c first before grew =
    let now = c.args.self.now.contents in
    on_ok_weaker c.put_lags.result (λ grown. (lags_rows now.net, refl, grown)) (c.put_lags.ensures now.net now.numbers c.plan.ensures.of.of.view first before grew)
