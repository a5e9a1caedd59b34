use Rattle.mst_rows.proofs.Loops.{rows_more}
use Rattle.mst_text.specs.LagView.{class_rows}
use Rattle.mst_text.proofs.lags.put_classes.Goals as goal

pub loop-lan-preserved : goal.loop-lan-preserved
loop-lan-preserved g c first rows grew =
    rows_more (g.R.Rows.grew first c.put_class.new.out) (class_rows c.args.view.now) c.lans-lan-items.result.now c.loop-lan.lan-index c.lan-item.result rows c.loop-lan-test.true c.lan-item.is
    (c.in_ok-put_class.ensures first _ (c.loop-lan.invariant first rows grew))
