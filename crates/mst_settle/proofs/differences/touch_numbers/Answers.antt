use Rattle.mst_settle.proofs.Roomy.{keeps_trans}
use Rattle.mst_settle.proofs.Scratch.{space_kept}
use Rattle.std.proofs.Common.{refl}
use Rattle.mst_settle.specs.Differences.{NumberIsDone}
use Rattle.mst_settle.proofs.Kept.{number_kept}
use Rattle.mst_settle.proofs.Marked.{all_more, all_there}
use Rattle.mst_settle.proofs.differences.touch_numbers.Goals as goal

pub touch_number-requires-clause-from : goal.touch_number-requires-clause-from
touch_number-requires-clause-from g c = space_kept c.args.from.now c.args.settler.now c.loop-number.settler c.requires.from c.loop-number.invariant.keeps.space

pub touch_number-requires-clause-to : goal.touch_number-requires-clause-to
touch_number-requires-clause-to g c = space_kept c.args.to.now c.args.settler.now c.loop-number.settler c.requires.to c.loop-number.invariant.keeps.space

pub loop-number-preserved : goal.loop-number-preserved
loop-number-preserved g c =
    let before = c.loop-number.invariant in
    let keeps = c.touch_number.ensures.keeps in
    record {
      keeps = keeps_trans c.args.settler.now c.loop-number.settler c.touch_number.new.settler before.keeps keeps;
      done = all_more (NumberIsDone c.args.from.now c.args.to.now c.loop-number.settler) (NumberIsDone c.args.from.now c.args.to.now c.touch_number.new.settler) c.args.numbers.now c.loop-number.number-index c.number-item.result
          c.loop-number-test.true c.number-item.is (number_kept c.args.from.now c.args.to.now c.loop-number.settler c.touch_number.new.settler keeps) before.done c.touch_number.ensures.done;
    }

pub returns-clause-done : goal.returns-clause-done
returns-clause-done g c = λ p h among. all_there (NumberIsDone c.args.from.now c.args.to.now c.loop-number.settler) c.args.numbers.now c.loop-number.number-index p.number c.loop-number-test.false c.loop-number.invariant.done among p h refl
