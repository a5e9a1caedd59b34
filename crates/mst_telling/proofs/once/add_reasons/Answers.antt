use Rattle.mst_rows.specs.Rows.{Row}
use Rattle.std.proofs.Common.{◌++◌, List, take}
use Rattle.mst_telling.specs.Judged.{AreTexts}
use Rattle.mst_telling.specs.Rows.{reason_row}
use Rattle.mst_telling.specs.Told.{reason_rows}
use Rattle.mst_telling.proofs.GoesOn.{mapped, more, whole}
use Rattle.mst_telling.proofs.once.add_reasons.Goals as goal

pub loop-reason-preserved : goal.loop-reason-preserved
loop-reason-preserved c rows are =
    more (λ (all : List Row). AreTexts all c.add.new.self) (mapped (reason_row c.args.number c.args.place.now)) c.args.reasons.now c.loop-reason.reason-index c.reason-item.result rows c.loop-reason-test.true c.reason-item.is
    (c.in_ok-add.ensures (rows ++ reason_rows c.args.number c.args.place.now (take c.loop-reason.reason-index c.args.reasons.now)) (reason_row c.args.number c.args.place.now c.reason-item.result) (c.loop-reason.invariant rows are) c.in_ok-reason_text.ensures)

pub returns : goal.returns
returns c rows are =
    whole (λ (all : List Row). AreTexts all c.loop-reason.texts) (mapped (reason_row c.args.number c.args.place.now)) c.args.reasons.now c.loop-reason.reason-index rows c.loop-reason-test.false (c.loop-reason.invariant rows are)
