use Rattle.mst_report.proofs.Answering.{answer_there}
use Rattle.mst_report.proofs.laws.has_answer.Goals as goal

pub returns : goal.returns
returns c = answer_there c.has_outcome.ensures c.has_plan.ensures c.has_rows.ensures.vlan c.notes.ensures.some_rows
