use Rattle.std.proofs.Common.{◌≡◌, ◌++◌, take}
use Rattle.mst_policy_hints.specs.Hints.{form_text}
use Rattle.mst_policy_hints.proofs.form.push_form.Given as goal

abbrev pub invariant-loop-argument : goal.invariant-loop-argument
invariant-loop-argument l = l.out.items ≡ l.fn.out.items ++ form_text (take l.argument-index l.form)
