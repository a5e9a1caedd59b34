use Rattle.std.proofs.Common.{◌∙◌, ◌++◌, true, ap}
use Rattle.mst_policy_hints.specs.Hints.{all_forms_text, forms_text}
use Rattle.mst_policy_hints.proofs.hint.push_all_forms.Goals as goal

pub returns : goal.returns
unfolding all_forms_text
returns c = c.in_ok-push_forms.ensures ∙ ap (λ rs. c.args.out.now.items ++ forms_text c.args.word.now true rs) c.forms.ensures
