use Rattle.std.proofs.Common.{ap, sym, ◌∙◌}
use Rattle.std.specs.Option.{option_map}
use Rattle.mst_changes.specs.Stored.{kept_entries}
use Rattle.mst_report.specs.Planned.{planned_state}
use Rattle.mst_report.proofs.Answering.{not_marked}
use Rattle.mst_report.proofs.planner.Planner.changes.Goals as goal

pub returns-in-None : goal.returns-in-None
returns-in-None g c first before grew =
    let s = planned_state c.args.self.now in
    absurd (not_marked s.net s.mark (sym c.marked.ensures ∙ ap (option_map (λ entries. kept_entries entries.now)) c.in-None.is) c.requires.rows)
