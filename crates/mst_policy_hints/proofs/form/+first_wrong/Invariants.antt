use Rattle.std.proofs.Common.{length}
use Rattle.mst_policy_hints.proofs.form.+first_wrong.Given as goal

abbrev pub decreases-first_wrong : goal.decreases-first_wrong
decreases-first_wrong l = length l.form.now
