use Rattle.mst_report.specs.Planned.{planned_state}
use Rattle.mst_report.proofs.Answering.{has_rows}
use Rattle.mst_report.proofs.planner.Planner.refusal.Goals as goal

pub returns-in_default : goal.returns-in_default
returns-in_default c = has_rows c.has_answer.ensures c.args.query.now (planned_state c.args.self.now) c.known.ensures c.in_default.not-ShowConfiguration c.in_default.not-Changes
