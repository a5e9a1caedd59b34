use Rattle.std.proofs.Common.{refl, inl}
use Rattle.mst_settle.proofs.Scratch.{space_kept}
use Rattle.mst_settle.proofs.Kept.{number_touched}
use Rattle.mst_settle.proofs.differences.touch_number.Goals as goal

pub touch_port-requires-then-not-same_at : goal.touch_port-requires-then-not-same_at
touch_port-requires-then-not-same_at g c = space_kept c.args.to.now c.args.settler.now c.touch_port.new.settler c.requires.to c.touch_port.ensures.keeps.space

pub returns-then-not-same_at-clause-done : goal.returns-then-not-same_at-clause-done
returns-then-not-same_at-clause-done g c =
    number_touched c.args.from.now c.args.to.now c.touch_port.new.settler c.touch_port-then-not-same_at.new.settler c.touch_port-then-not-same_at.ensures.keeps c.args.number c.touch_port.ensures.touched c.touch_port-then-not-same_at.ensures.touched

pub returns-else-not-same_at-clause-done : goal.returns-else-not-same_at-clause-done
returns-else-not-same_at-clause-done g c = λ p h number. inl (c.if-not-same_at.ensures refl p number)
