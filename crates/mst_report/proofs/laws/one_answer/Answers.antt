use Rattle.mst_report.proofs.Answering.{one_rows}
use Rattle.mst_report.proofs.laws.one_answer.Goals as goal

pub returns : goal.returns
returns c = one_rows c.one_outcome.ensures c.one_plan.ensures c.one_rows.ensures.vlan c.notes.ensures.one_list c.entries_tell.ensures
