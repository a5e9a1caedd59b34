use Rattle.std.proofs.Common.{rules}
use Rattle.mst_lang.specs.Words.{words}
use Rattle.mst_lang.specs.Forms.{command_of}
use Rattle.mst_hints.proofs.Wrong.{of_form, of_no_form}
use Rattle.mst_hints.proofs.hint.push_command_hint.Goals as goal

pub returns-in-Some-clause-hinted : goal.returns-in-Some-clause-hinted
returns-in-Some-clause-hinted c = rw (← of_form c.args.version c.args.word.now c.in-Some.form.now (command_of c.args.word.now) (words c.args.arguments.now) c.in-Some.ensures) (search rules)

pub returns-in-Some-clause-text : goal.returns-in-Some-clause-text
returns-in-Some-clause-text c = rw (← of_form c.args.version c.args.word.now c.in-Some.form.now (command_of c.args.word.now) (words c.args.arguments.now) c.in-Some.ensures) (search rules)

pub returns-in-None-clause-hinted : goal.returns-in-None-clause-hinted
returns-in-None-clause-hinted c = rw (← of_no_form c.args.version c.args.word.now (command_of c.args.word.now) (words c.args.arguments.now) c.in-None.ensures) (search rules)

pub returns-in-None-clause-text : goal.returns-in-None-clause-text
returns-in-None-clause-text c = rw (← of_no_form c.args.version c.args.word.now (command_of c.args.word.now) (words c.args.arguments.now) c.in-None.ensures) (search rules)
