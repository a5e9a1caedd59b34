use Rattle.std.proofs.Common.{ap, sym, ◌∙◌}
use Rattle.std.specs.FinMap as fin
use Rattle.std.specs.Option.{option_map}
use Rattle.mst_net.specs.tables.Seen.{bridge_row}
use Rattle.mst_report.specs.Planned.{planned_state}
use Rattle.mst_report.proofs.Answering.{configuration_there}
use Rattle.mst_report.proofs.planner.Planner.no_bridge.Goals as goal

pub returns-in-Some : goal.returns-in-Some
returns-in-Some c =
    let name = c.args.bridge.now in
    configuration_there (planned_state c.args.self.now) name (bridge_row c.in-Some.field-0)
    (ap (option_map bridge_row) (sym c.in-Some.is) ∙ c.bridge.ensures.row ∙ ap (λ n. fin.get n.net.bridges name) c.network.ensures)
