use Rattle.mst_rows.proofs.Loops.{rows_all, rows_more}
use Rattle.mst_slips.specs.Seen.{seen_among}
use Rattle.mst_slips.proofs.tables.put_firsts.Goals as goal

pub loop-first-preserved : goal.loop-first-preserved
loop-first-preserved g c grown rows grew =
    let firsts = c.args.firsts.now in
    rows_more (g.R.Rows.grew grown c.put_first.new.out) (seen_among c.args.view.now c.args.regions.now firsts) firsts c.loop-first.first-index c.first-item.result rows c.loop-first-test.true c.first-item.is
    (c.in_ok-put_first.ensures grown _ (c.loop-first.invariant grown rows grew))

pub returns : goal.returns
returns g c grown rows grew =
    let firsts = c.args.firsts.now in
    rows_all (g.R.Rows.grew grown c.loop-first.out) (seen_among c.args.view.now c.args.regions.now firsts) firsts c.loop-first.first-index rows c.loop-first-test.false (c.loop-first.invariant grown rows grew)
