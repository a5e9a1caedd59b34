use Rattle.std.proofs.Common.{refl}
use Rattle.mst_settle.proofs.Marked.{all_more, all_there}
use Rattle.mst_settle.proofs.Rewired.{AreSameAt}
use Rattle.mst_settle.proofs.differences.same_at_numbers.Goals as goal

pub loop-number-preserved : goal.loop-number-preserved
loop-number-preserved g c = all_more (AreSameAt c.args.from.now c.args.to.now) (AreSameAt c.args.from.now c.args.to.now) c.args.numbers.now c.loop-number.number-index c.number-item.result
    c.loop-number-test.true c.number-item.is (λ n h. h) c.loop-number.invariant (c.if-not-same_at.ensures refl)

pub returns : goal.returns
returns g c = λ yes p among. all_there (AreSameAt c.args.from.now c.args.to.now) c.args.numbers.now c.loop-number.number-index p.number c.loop-number-test.false c.loop-number.invariant among p refl
