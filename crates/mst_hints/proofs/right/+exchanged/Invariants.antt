use Rattle.std.proofs.Common.{length}
use Rattle.mst_hints.proofs.right.+exchanged.Given as goal

abbrev pub decreases-exchanged : goal.decreases-exchanged
decreases-exchanged l = length l.form.now
