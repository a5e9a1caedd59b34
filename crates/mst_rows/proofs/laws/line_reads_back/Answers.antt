use Rattle.mst_rows.proofs.JsonText.{line_of_record, refusal_is, unanswered_is}
use Rattle.mst_rows.proofs.ReadsBack.{record_again, refusal_again, unanswered_again}
use Rattle.mst_rows.proofs.laws.line_reads_back.Goals as goal

pub returns-clause-record : goal.returns-clause-record
returns-clause-record c = line_of_record

pub returns-clause-record_again : goal.returns-clause-record_again
returns-clause-record_again c = record_again

pub returns-clause-refusal : goal.returns-clause-refusal
returns-clause-refusal c = refusal_is

pub returns-clause-refusal_again : goal.returns-clause-refusal_again
returns-clause-refusal_again c = refusal_again

pub returns-clause-unanswered : goal.returns-clause-unanswered
returns-clause-unanswered c = unanswered_is

pub returns-clause-unanswered_again : goal.returns-clause-unanswered_again
returns-clause-unanswered_again c = unanswered_again
