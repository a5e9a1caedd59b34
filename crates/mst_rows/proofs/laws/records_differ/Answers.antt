use Rattle.mst_rows.proofs.SameRows.{same_records, same_row}
use Rattle.mst_rows.proofs.laws.records_differ.Goals as goal

pub returns-clause-row : goal.returns-clause-row
returns-clause-row c = same_row

pub returns-clause-rows : goal.returns-clause-rows
returns-clause-rows c = same_records
