use Rattle.std.proofs.Common.{◌∙◌}
use Rattle.mst_lang.specs.Forms.{command_of}
use Rattle.mst_hints.proofs.Wrong.{some_alike}
use Rattle.mst_hints.proofs.form.is_command.Goals as goal

pub returns : goal.returns
returns c = c.is_some.ensures ∙ some_alike c.form_of.result (command_of c.args.word.now) c.form_of.ensures
