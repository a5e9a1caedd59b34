use Rattle.std.proofs.Common.{List, [], map, take}
use Rattle.mst_rows.specs.Rows.{Row}
use Rattle.mst_telling.specs.Judged.{AreTexts, found_at}
use Rattle.mst_telling.specs.Once.{now_at, rows_now}
use Rattle.mst_telling.proofs.GoesOn.{flat_mapped, more, whole}
use Rattle.mst_telling.proofs.once.texts_now.Goals as goal

pub loop-finding-preserved : goal.loop-finding-preserved
loop-finding-preserved c =
    more (λ (all : List Row). AreTexts all c.add_now.new.texts) (flat_mapped (now_at c.args.number) (found_at c.args.n)) c.args.found.now c.loop-finding.finding-index c.finding-item.result [] c.loop-finding-test.true c.finding-item.is
    (c.in_ok-add_now.ensures (rows_now c.args.number (map (found_at c.args.n) (take c.loop-finding.finding-index c.args.found.now))) c.loop-finding.invariant)

pub returns : goal.returns
returns c = whole (λ (all : List Row). AreTexts all c.loop-finding.texts) (flat_mapped (now_at c.args.number) (found_at c.args.n)) c.args.found.now c.loop-finding.finding-index [] c.loop-finding-test.false c.loop-finding.invariant
