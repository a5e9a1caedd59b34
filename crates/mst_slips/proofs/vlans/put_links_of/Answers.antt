use Rattle.mst_rows.proofs.Loops.{rows_all, rows_more}
use Rattle.mst_slips.specs.Kept.{kept_link}
use Rattle.mst_slips.proofs.vlans.put_links_of.Goals as goal

pub loop-lan-preserved : goal.loop-lan-preserved
loop-lan-preserved g c first rows grew =
    rows_more (g.R.Rows.grew first c.put_link.new.out) (kept_link c.args.view.now.settings c.args.kept.now) c.args.lans.now c.loop-lan.lan-index c.lan-item.result rows c.loop-lan-test.true c.lan-item.is
    (c.in_ok-put_link.ensures first _ (c.loop-lan.invariant first rows grew))

pub returns : goal.returns
returns g c first rows grew =
    rows_all (g.R.Rows.grew first c.loop-lan.out) (kept_link c.args.view.now.settings c.args.kept.now) c.args.lans.now c.loop-lan.lan-index rows c.loop-lan-test.false (c.loop-lan.invariant first rows grew)
