use Rattle.std.proofs.Common.{◌∙◌}
use Rattle.mst_policy_hints.specs.Hints.{is_expectation}
use Rattle.mst_policy_hints.proofs.Tables.{among}
use Rattle.mst_policy_hints.proofs.form.is_expectation.Goals as goal

pub returns : goal.returns
unfolding is_expectation
returns c = c.is_among.ensures ∙ among c.args.word.now c.forms.result.now c.forms.ensures
