use Rattle.std.proofs.Common.{ap, sym, ◌∙◌}
use Rattle.std.specs.Option.{option_map}
use Rattle.mst_lang.specs.declared.line.Query.TheVariants.{Changes}
use Rattle.mst_changes.specs.Stored.{kept_entries}
use Rattle.mst_report.specs.Planned.{planned_state}
use Rattle.mst_report.proofs.Answering.{changes_have_rows}
use Rattle.mst_report.proofs.planner.Planner.no_mark.Goals as goal

pub returns-in-Some : goal.returns-in-Some
returns-in-Some c =
    let now = planned_state c.args.self.now in
    changes_have_rows now.net now.mark (kept_entries c.in-Some.field-0.now) (sym c.marked.ensures ∙ ap (option_map (λ entries. kept_entries entries.now)) c.in-Some.is)
    (c.has_answer.ensures Changes now c.known.ensures)
