use Rattle.std.proofs.Common.{List, ◌++◌, take}
use Rattle.std.specs.List.{flat_map}
use Rattle.mst_rows.specs.Rows.{Row}
use Rattle.mst_explain.specs.SeenText.{explanation_rows}
use Rattle.mst_explain.specs.contracts.explained.put_in_trees.{R-type}
use Rattle.mst_explain.proofs.explained.put_in_trees.Given as goal

abbrev pub invariant-loop-tree : goal.invariant-loop-tree
invariant-loop-tree g l =
    (first : R-type g.row.R) (rows : List Row) → g.R.Rows.grew first l.fn.out rows → g.R.Rows.grew first l.out (rows ++ flat_map (λ tree. explanation_rows l.plan tree l.port) (take l.tree-index l.trees))
