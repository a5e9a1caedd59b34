use Rattle.std.proofs.Common.{length}
use Rattle.mst_policy_hints.proofs.form.+push_forms.Given as goal

abbrev pub decreases-push_forms : goal.decreases-push_forms
decreases-push_forms l = length l.forms.now
