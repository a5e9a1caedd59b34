use Rattle.mst_telling.specs.Rows.{reason_row, row_at}
use Rattle.mst_telling.proofs.GoesOn.{mapped, more, then_mapped, whole}
use Rattle.mst_telling.proofs.judgement.put_reasons.Goals as goal

pub loop-reason-preserved : goal.loop-reason-preserved
loop-reason-preserved g c first rows grew =
    more (g.R.Rows.grew first c.put_reason.new.out) (then_mapped (row_at c.args.at.step) (mapped (reason_row c.args.at.number c.args.place.now))) c.args.reasons.now c.loop-reason.reason-index c.reason-item.result rows
    c.loop-reason-test.true c.reason-item.is (c.in_ok-put_reason.ensures first _ (c.loop-reason.invariant first rows grew))

pub returns : goal.returns
returns g c first rows grew =
    whole (g.R.Rows.grew first c.loop-reason.out) (then_mapped (row_at c.args.at.step) (mapped (reason_row c.args.at.number c.args.place.now))) c.args.reasons.now c.loop-reason.reason-index rows c.loop-reason-test.false
    (c.loop-reason.invariant first rows grew)
