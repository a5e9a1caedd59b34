use Rattle.std.proofs.Common.{not}
use Rattle.mst_rows.specs.Rows.{Row}
use Rattle.mst_telling.specs.Rows.{reason_row, row_at}
use Rattle.mst_telling.specs.Texts.{is_told}
use Rattle.mst_telling.proofs.GoesOn.{mapped, more, then_filtered, then_mapped, whole}
use Rattle.mst_telling.proofs.news.put_unless.Goals as goal

pub loop-reason-preserved : goal.loop-reason-preserved
loop-reason-preserved g c those are first rows grew =
    let at = c.args.at in
    let place = c.args.place.now in
    let reason = c.reason-item.result in
    more (g.R.Rows.grew first c.put_if_new.new.out) (then_mapped (row_at at.step) (then_filtered (λ (row : Row). not (is_told those row)) (mapped (reason_row at.number place)))) c.args.reasons.now c.loop-reason.reason-index reason rows
    c.loop-reason-test.true c.reason-item.is (c.in_ok-put_if_new.ensures those are first _ (c.loop-reason.invariant those are first rows grew))

pub returns : goal.returns
returns g c those are first rows grew =
    let at = c.args.at in
    whole (g.R.Rows.grew first c.loop-reason.out) (then_mapped (row_at at.step) (then_filtered (λ (row : Row). not (is_told those row)) (mapped (reason_row at.number c.args.place.now)))) c.args.reasons.now c.loop-reason.reason-index
    rows c.loop-reason-test.false (c.loop-reason.invariant those are first rows grew)
