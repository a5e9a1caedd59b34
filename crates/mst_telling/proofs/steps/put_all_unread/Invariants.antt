use Rattle.std.proofs.Common.{◌≡◌, ◌≤◌, ◌++◌, List, length, map, take}
use Rattle.std.specs.List.{flat_map}
use Rattle.mst_rows.specs.Rows.{Row}
use Rattle.mst_telling.specs.Rows.{behind}
use Rattle.mst_telling.specs.Told.{unread_rows}
use Rattle.mst_telling.specs.contracts.steps.put_all_unread.{R-type}
use Rattle.mst_telling.proofs.steps.put_all_unread.Given as goal

-- the rows of the lines so far, and how many there are
abbrev pub invariant-loop-line : goal.invariant-loop-line
invariant-loop-line g l = record {
  counted : l.count ≡ length (flat_map unread_rows (take l.line-index l.lines));
  few : l.count ≤ l.line-index;
  put : (first : R-type g.row.R) (rows : List Row) → g.R.Rows.grew first l.fn.out rows → g.R.Rows.grew first l.out (rows ++ map (behind 0) (flat_map unread_rows (take l.line-index l.lines)));
}
