use Rattle.mst_settle.proofs.Roomy.{keeps_trans}
use Rattle.mst_settle.proofs.Scratch.{space_kept}
use Rattle.mst_settle.proofs.Kept.{keeps_three}
use Rattle.mst_settle.proofs.Rewired.{touched_there, touched_back}
use Rattle.mst_settle.proofs.differences.touch_differences.Goals as goal

pub touch_own-requires-clause-from : goal.touch_own-requires-clause-from
touch_own-requires-clause-from g c = space_kept c.args.from.now c.args.settler.now c.touch_numbers.new.settler c.requires.space_from c.touch_numbers.ensures.keeps.space

pub touch_own-requires-clause-to : goal.touch_own-requires-clause-to
touch_own-requires-clause-to g c = space_kept c.args.to.now c.args.settler.now c.touch_numbers.new.settler c.requires.space_to c.touch_numbers.ensures.keeps.space

pub touch_bridges-requires-clause-here : goal.touch_bridges-requires-clause-here
touch_bridges-requires-clause-here g c =
    let keeps = keeps_trans c.args.settler.now c.touch_numbers.new.settler c.touch_own.new.settler c.touch_numbers.ensures.keeps c.touch_own.ensures.keeps in
    space_kept c.args.from.now c.args.settler.now c.touch_own.new.settler c.requires.space_from keeps.space

pub touch_bridges-requires-clause-there : goal.touch_bridges-requires-clause-there
touch_bridges-requires-clause-there g c =
    let keeps = keeps_trans c.args.settler.now c.touch_numbers.new.settler c.touch_own.new.settler c.touch_numbers.ensures.keeps c.touch_own.ensures.keeps in
    space_kept c.args.to.now c.args.settler.now c.touch_own.new.settler c.requires.space_to keeps.space

pub touch_bridges-requires-2-clause-here : goal.touch_bridges-requires-2-clause-here
touch_bridges-requires-2-clause-here g c =
    let keeps = keeps_three c.touch_numbers.ensures.keeps c.touch_own.ensures.keeps c.touch_bridges.ensures.keeps in
    space_kept c.args.to.now c.args.settler.now c.touch_bridges.new.settler c.requires.space_to keeps.space

pub touch_bridges-requires-2-clause-there : goal.touch_bridges-requires-2-clause-there
touch_bridges-requires-2-clause-there g c =
    let keeps = keeps_three c.touch_numbers.ensures.keeps c.touch_own.ensures.keeps c.touch_bridges.ensures.keeps in
    space_kept c.args.from.now c.args.settler.now c.touch_bridges.new.settler c.requires.space_from keeps.space

pub returns-clause-keeps : goal.returns-clause-keeps
returns-clause-keeps g c =
    let keeps = keeps_three c.touch_numbers.ensures.keeps c.touch_own.ensures.keeps c.touch_bridges.ensures.keeps in
    keeps_trans c.args.settler.now c.touch_bridges.new.settler c.touch_bridges-2.new.settler keeps c.touch_bridges-2.ensures.keeps

pub returns-clause-there : goal.returns-clause-there
returns-clause-there g c = touched_there c.args.rewiring.now.from c.args.rewiring.now.to c.args.from.now c.args.to.now c.args.own_from.now c.args.own_to.now c.requires.from c.requires.to
    c.differing.result.now c.differing.ensures c.touch_numbers.new.settler c.touch_own.new.settler c.touch_bridges.new.settler c.touch_bridges-2.new.settler
    c.touch_own.ensures.keeps c.touch_bridges.ensures.keeps c.touch_bridges-2.ensures.keeps
    c.touch_numbers.ensures.done c.touch_own.ensures.done c.touch_bridges.ensures.done c.touch_bridges-2.ensures.done

pub returns-clause-back : goal.returns-clause-back
returns-clause-back g c = touched_back c.args.rewiring.now.from c.args.rewiring.now.to c.args.from.now c.args.to.now c.args.own_from.now c.args.own_to.now c.requires.from c.requires.to
    c.differing.result.now c.differing.ensures c.touch_numbers.new.settler c.touch_own.new.settler c.touch_bridges.new.settler c.touch_bridges-2.new.settler
    c.touch_own.ensures.keeps c.touch_bridges.ensures.keeps c.touch_bridges-2.ensures.keeps
    c.touch_numbers.ensures.done c.touch_own.ensures.done c.touch_bridges.ensures.done c.touch_bridges-2.ensures.done
