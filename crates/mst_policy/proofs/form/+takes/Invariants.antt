use Rattle.std.proofs.Common.{length}
use Rattle.mst_policy.proofs.form.+takes.Given as goal

abbrev pub decreases-takes : goal.decreases-takes
decreases-takes l = length l.form.now
