use Rattle.std.proofs.Common.{[], subst, ◌++◌}
use Rattle.std.specs.Prelude.{unwrap_or}
use Rattle.mst_plan_text.specs.text.ConfigurationText.{configuration_rows}
use Rattle.mst_report.specs.Planned.{planned_state}
use Rattle.mst_report.proofs.Answering.{configuration_is}
use Rattle.mst_report.proofs.planner.Planner.configuration.Goals as goal

pub returns : goal.returns
returns g c first before grew =
    let s = planned_state c.args.self.now in
    let bridge = c.args.bridge.now in (
      unwrap_or (configuration_rows s.net bridge) [],
      configuration_is s bridge c.requires,
      subst (λ n. g.R.Rows.grew first c.put_configuration.new.out (before ++ unwrap_or (configuration_rows n.net bridge) [])) c.network.ensures (c.in_ok-put_configuration.ensures.rows first before grew),
    )
