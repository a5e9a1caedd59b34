use Rattle.mst_rows.proofs.Loops.{rows_more}
use Rattle.mst_text.specs.Members.{seen_region}
use Rattle.mst_text.proofs.regions.put_seen.Goals as goal

pub loop-bridge-preserved : goal.loop-bridge-preserved
loop-bridge-preserved g c first rows grew =
    rows_more (g.R.Rows.grew first c.put_bridge.new.out) (seen_region c.args.view.now c.args.regions.now) c.bridges-bridge-items.result.now c.loop-bridge.bridge-index c.bridge-item.result rows c.loop-bridge-test.true c.bridge-item.is
    (c.in_ok-put_bridge.ensures first _ (c.loop-bridge.invariant first rows grew))
