use Rattle.std.proofs.Common.{List, ◌++◌, map, take}
use Rattle.mst_rows.specs.Rows.{Row}
use Rattle.mst_diff.specs.Seen.{row_of_root}
use Rattle.mst_diff.specs.contracts.all_roots.put_roots.{R-type}
use Rattle.mst_diff.proofs.all_roots.put_roots.Given as goal

-- the rows so far
abbrev pub invariant-loop-change : goal.invariant-loop-change
invariant-loop-change g l = (first : R-type g.row.R) (rows : List Row) → g.R.Rows.grew first l.fn.out rows → g.R.Rows.grew first l.out (rows ++ map row_of_root (take l.change-index l.changes))
