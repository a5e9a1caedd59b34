use Rattle.std.proofs.Common.{refl}
use Rattle.std.proofs.lemmas.Result.{on_ok_weaker}
use Rattle.mst_plan_text.specs.text.RegionsText.{regions_rows}
use Rattle.mst_report.proofs.planner.Planner.regions.Goals as goal

pub returns : goal.returns
returns g c first before grew =
    let now = c.args.self.now.contents in
    let is = c.plan-plan.ensures.of in
    on_ok_weaker c.put_regions.result (λ grown. (regions_rows now.net, refl, grown)) (c.put_regions.ensures now.net now.numbers is.of.network is.of.view is.regions first before grew)
