use Rattle.std.proofs.Common.{List, ◌++◌, take}
use Rattle.std.specs.List.{flat_map}
use Rattle.mst_rows.specs.Rows.{Row}
use Rattle.mst_text.specs.LagView.{class_rows}
use Rattle.mst_text.specs.contracts.lags.put_classes.{R-type}
use Rattle.mst_text.proofs.lags.put_classes.Given as goal

abbrev pub invariant-loop-lan : goal.invariant-loop-lan
invariant-loop-lan g l =
    (first : R-type g.row.R) (rows : List Row) → g.R.Rows.grew first l.fn.out rows → g.R.Rows.grew first l.out (rows ++ flat_map (class_rows l.view) (take l.lan-index l.lan-items))
