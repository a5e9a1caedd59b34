use Rattle.mst_rows.proofs.Loops.{rows_all, rows_more}
use Rattle.mst_summary.specs.Seen.{seen_tree_rows}
use Rattle.mst_summary.proofs.summary.put_trees.Goals as goal

pub loop-tree-preserved : goal.loop-tree-preserved
loop-tree-preserved g c first rows grew =
    rows_more (g.R.Rows.grew first c.put_tree.new.out) (seen_tree_rows c.args.plan.now) c.args.trees.now c.loop-tree.tree-index c.tree-item.result rows c.loop-tree-test.true c.tree-item.is
    (c.in_ok-put_tree.ensures first _ (c.loop-tree.invariant first rows grew))

pub returns : goal.returns
returns g c first rows grew =
    rows_all (g.R.Rows.grew first c.loop-tree.out) (seen_tree_rows c.args.plan.now) c.args.trees.now c.loop-tree.tree-index rows c.loop-tree-test.false (c.loop-tree.invariant first rows grew)
