use Rattle.mst_rows.proofs.Loops.{rows_all, rows_more}
use Rattle.mst_slips.specs.Seen.{seen_two}
use Rattle.mst_slips.proofs.regions.put_beside.Goals as goal

pub loop-other-preserved : goal.loop-other-preserved
loop-other-preserved g c grown rows grew =
    rows_more (g.R.Rows.grew grown c.put_if_near.new.out) (seen_two c.args.view.now c.args.regions.now c.args.first.now) c.args.behind.now c.loop-other.other-index c.other-item.result rows c.loop-other-test.true c.other-item.is
    (c.in_ok-put_if_near.ensures grown _ (c.loop-other.invariant grown rows grew))

pub returns : goal.returns
returns g c grown rows grew =
    rows_all (g.R.Rows.grew grown c.loop-other.out) (seen_two c.args.view.now c.args.regions.now c.args.first.now) c.args.behind.now c.loop-other.other-index rows c.loop-other-test.false (c.loop-other.invariant grown rows grew)
