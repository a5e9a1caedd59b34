use Rattle.mst_compare.specs.Seen.{seen_msti}
use Rattle.mst_compare.proofs.Found.{kept_more}
use Rattle.mst_compare.proofs.planned.in_mstis.Goals as goal

pub loop-tree-preserved : goal.loop-tree-preserved
loop-tree-preserved c =
    let l = c.loop-tree in
    kept_more (seen_msti c.args.view.now c.args.forest.now c.args.port.now) c.trees-tree-items.result.now l.tree-index c.tree-item.result c.loop-tree-test.true c.tree-item.is l.mstis c.push_msti.new.mstis l.invariant
    c.in_ok-push_msti.ensures
