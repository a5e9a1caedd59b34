use Rattle.std.proofs.Common.{◌≡◌, fold, take}
use Rattle.clap.specs.Words.{app_of}
use Rattle.mst_command.specs.Words.{no_command}
use Rattle.mst_command.proofs.Commands.{with_verb}
use Rattle.mst_command.proofs.command.command_line.Given as goal

abbrev pub invariant-loop-verb : goal.invariant-loop-verb
invariant-loop-verb l = app_of l.command ≡ fold with_verb no_command (take l.verb-index l.verb-items)
