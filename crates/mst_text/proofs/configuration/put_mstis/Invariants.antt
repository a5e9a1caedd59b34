use Rattle.std.proofs.Common.{List, ◌++◌, map, take}
use Rattle.mst_rows.specs.Rows.{Row}
use Rattle.mst_text.specs.ConfigurationText.{msti_row, vids_in}
use Rattle.mst_text.specs.contracts.configuration.put_mstis.{R-type}
use Rattle.mst_text.proofs.configuration.put_mstis.Given as goal

abbrev pub invariant-loop-tree : goal.invariant-loop-tree
invariant-loop-tree g l =
    (first : R-type g.row.R) (rows : List Row) → g.R.Rows.grew first l.fn.out rows
    → g.R.Rows.grew first l.out (rows ++ map (λ tree. msti_row l.bridge tree (vids_in l.table tree)) (take l.tree-index l.tree-items))
