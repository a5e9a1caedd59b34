use Rattle.std.proofs.Common.{List, ◌++◌, take}
use Rattle.mst_rows.specs.Rows.{Row}
use Rattle.mst_edits.specs.EditRows.{edits_rows}
use Rattle.mst_edits.specs.contracts.edits.put_rows.{R-type}
use Rattle.mst_edits.proofs.edits.put_rows.Given as goal

-- the rows of the edits before it
abbrev pub invariant-loop-edit : goal.invariant-loop-edit
invariant-loop-edit g l = (first : R-type g.row.R) (rows : List Row) → g.R.Rows.grew first l.fn.out rows → g.R.Rows.grew first l.out (rows ++ edits_rows (take l.edit-index l.all))
