use Rattle.std.proofs.Common.{arith}
use Rattle.mst_edits.proofs.RunSets.{none_yet, one_more, all_there}
use Rattle.mst_edits.proofs.runs.with_run.Goals as goal

pub loop-number-init : goal.loop-number-init
loop-number-init c runs is = none_yet runs c.args.run.0 c.args.vids.now is

pub loop-number-preserved : goal.loop-number-preserved
loop-number-preserved c runs is = one_more runs c.args.run.0 c.loop-number.number c.loop-number.more c.insert.new.vids (omega arith) (c.loop-number.invariant runs is) c.insert.ensures

pub returns : goal.returns
returns c runs is = all_there runs c.args.run c.loop-number.number c.loop-number.more (omega arith) (c.loop-number.invariant runs is)
