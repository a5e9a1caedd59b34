use Rattle.std.proofs.Common.{Some, None}
use Rattle.mst_lang.specs.Forms.{command_of}
use Rattle.mst_hints.proofs.Tables.{arguments_of}
use Rattle.mst_hints.proofs.form.form_of.Goals as goal

pub returns-in-Some : goal.returns-in-Some
returns-in-Some c = arguments_of (Some c.in-Some.form.now) (command_of c.args.word.now) c.in-Some.ensures

pub returns-in-None : goal.returns-in-None
returns-in-None c = arguments_of None (command_of c.args.word.now) c.in-None.ensures
