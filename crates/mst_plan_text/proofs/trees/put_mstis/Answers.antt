use Rattle.mst_rows.proofs.Loops.{rows_more}
use Rattle.mst_vlan.specs.forest.Settled.{outcome_of}
use Rattle.mst_text.specs.TreeText.{tree_rows}
use Rattle.mst_plan_text.proofs.trees.put_mstis.Goals as goal

pub loop-tree-preserved : goal.loop-tree-preserved
loop-tree-preserved g c first before grew =
    let s = c.args.plan.now in
    rows_more (g.R.Rows.grew first c.put_tree_with.new.out) (tree_rows s.net (outcome_of s)) c.args.trees.now c.loop-tree.tree-index c.tree-item.result before c.loop-tree-test.true c.tree-item.is
    (c.in_ok-put_tree_with.ensures first _ (c.loop-tree.invariant first before grew))
