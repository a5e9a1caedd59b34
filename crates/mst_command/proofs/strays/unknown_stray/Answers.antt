use Rattle.std.proofs.Common.{◌∙◌, ap}
use Rattle.mst_command.specs.Strays.{first_unknown}
use Rattle.mst_command.proofs.Meanings.{behind_first}
use Rattle.mst_command.proofs.strays.unknown_stray.Goals as goal

pub returns-in-Some-clause-word : goal.returns-in-Some-clause-word
returns-in-Some-clause-word c = c.in-Some.ensures ∙ ap first_unknown (behind_first c.args.words.now)
