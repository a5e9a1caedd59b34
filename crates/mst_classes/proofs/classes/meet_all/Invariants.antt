use Rattle.std.proofs.Common.{Bool, List, take}
use Rattle.mst_classes.proofs.Gathered.{MetSoFar}
use Rattle.mst_classes.proofs.classes.meet_all.Given as goal

abbrev pub invariant-loop-set : goal.invariant-loop-set
invariant-loop-set l = MetSoFar (λ (set : List Bool). set) (take l.set-index l.sets) l.fn.met.keys l.met.keys
