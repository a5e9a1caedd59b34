use Rattle.std.proofs.Common.{take}
use Rattle.mst_classes.proofs.Told.{SplitByMet}
use Rattle.mst_classes.proofs.alike.split_by_sets.Given as goal

abbrev pub invariant-loop-set : goal.invariant-loop-set
invariant-loop-set l = SplitByMet (take l.set-index l.sets) l.fn.numbers.items l.met.keys l.splitting
