use Rattle.std.proofs.Common.{◌≤◌, List, ◌++◌, drop, length}
use Rattle.mst_rows.specs.Rows.{Row}
use Rattle.mst_ask.specs.Kept.{rows_of}
use Rattle.mst_ask.specs.contracts.undone.put_undone.{R-type}
use Rattle.mst_ask.proofs.undone.put_undone.Given as goal

abbrev pub invariant-loop-left : goal.invariant-loop-left
invariant-loop-left g l = record {
  few : l.left ≤ length l.lines;
  grew : (first : R-type g.row.R) (before : List Row) → g.R.Rows.grew first l.fn.out before → g.R.Rows.grew first l.out (before ++ rows_of (drop l.left l.lines));
}

abbrev pub decreases-loop-left : goal.decreases-loop-left
decreases-loop-left g l = l.left
