use Rattle.mst_rows.proofs.JsonText.{answer_is}
use Rattle.mst_rows.proofs.ReadsBack.{answer_again}
use Rattle.mst_rows.proofs.laws.answer_reads_back.Goals as goal

pub returns-clause-line : goal.returns-clause-line
returns-clause-line c = answer_is

pub returns-clause-value : goal.returns-clause-value
returns-clause-value c = answer_again
