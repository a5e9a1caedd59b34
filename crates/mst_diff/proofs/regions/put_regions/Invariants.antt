use Rattle.std.proofs.Common.{List, ◌++◌, map, take}
use Rattle.mst_rows.specs.Rows.{Row}
use Rattle.mst_diff.specs.Seen.{row_of_region}
use Rattle.mst_diff.specs.contracts.regions.put_regions.{R-type}
use Rattle.mst_diff.proofs.regions.put_regions.Given as goal

-- the rows so far
abbrev pub invariant-loop-change : goal.invariant-loop-change
invariant-loop-change g l = (first : R-type g.row.R) (rows : List Row) → g.R.Rows.grew first l.fn.out rows → g.R.Rows.grew first l.out (rows ++ map row_of_region (take l.change-index l.changes))
