use Rattle.std.proofs.Common.{List, ◌++◌, take}
use Rattle.std.specs.List.{flat_map}
use Rattle.mst_rows.specs.Rows.{Row}
use Rattle.mst_vlan.specs.forest.Settled.{outcome_of}
use Rattle.mst_text.specs.TreeText.{tree_rows}
use Rattle.mst_plan_text.specs.contracts.trees.put_mstis.{R-type}
use Rattle.mst_plan_text.proofs.trees.put_mstis.Given as goal

-- the rows of the trees so far
abbrev pub invariant-loop-tree : goal.invariant-loop-tree
invariant-loop-tree g l = (first : R-type g.row.R) (before : List Row) → g.R.Rows.grew first l.fn.out before
    → g.R.Rows.grew first l.out (before ++ flat_map (tree_rows l.plan.net (outcome_of l.plan)) (take l.tree-index l.trees))
