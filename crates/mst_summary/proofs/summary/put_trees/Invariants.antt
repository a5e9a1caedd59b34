use Rattle.std.proofs.Common.{List, ◌++◌, take}
use Rattle.std.specs.List.{flat_map}
use Rattle.mst_rows.specs.Rows.{Row}
use Rattle.mst_summary.specs.Seen.{seen_tree_rows}
use Rattle.mst_summary.specs.contracts.summary.put_trees.{R-type}
use Rattle.mst_summary.proofs.summary.put_trees.Given as goal

-- the rows of the trees so far
abbrev pub invariant-loop-tree : goal.invariant-loop-tree
invariant-loop-tree g l = (first : R-type g.row.R) (rows : List Row) → g.R.Rows.grew first l.fn.out rows → g.R.Rows.grew first l.out (rows ++ flat_map (seen_tree_rows l.plan) (take l.tree-index l.trees))
