use Rattle.std.proofs.Common.{cond, Some, sym, ap, ◌∙◌}
use Rattle.mst_lang.specs.Forms.{command_of}
use Rattle.mst_hints.specs.Hints.{near_alone}
use Rattle.mst_hints.proofs.Wrong.{is_command, is_no_command}
use Rattle.mst_hints.proofs.added.command_meant.Goals as goal

pub returns-in-Some : goal.returns-in-Some
returns-in-Some c = ap (λ t. cond t (Some c.args.word.now) (near_alone c.args.word.now)) (sym (is_command c.in-Some.field-0.now (command_of c.args.word.now) c.in-Some.ensures))

pub returns-in-None : goal.returns-in-None
returns-in-None c = c.near_alone.ensures ∙ ap (λ t. cond t (Some c.args.word.now) (near_alone c.args.word.now)) (sym (is_no_command (command_of c.args.word.now) c.in-None.ensures))
