use Rattle.std.proofs.Common.{List, ◌++◌, map, take}
use Rattle.mst_rows.specs.Rows.{Row}
use Rattle.mst_bpdu.specs.CaptureText.{difference_row}
use Rattle.mst_bpdu.specs.contracts.text.put_differences.{R-type}
use Rattle.mst_bpdu.proofs.text.put_differences.Given as goal

abbrev pub invariant-loop-difference : goal.invariant-loop-difference
invariant-loop-difference g l =
    (first : R-type g.row.R) (rows : List Row) → g.R.Rows.grew first l.fn.out rows → g.R.Rows.grew first l.out (rows ++ map (difference_row l.number l.port) (take l.difference-index l.differences))
