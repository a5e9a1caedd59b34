use Rattle.std.proofs.Common.{ap, ap₂, sym, ◌∙◌}
use Rattle.std.proofs.lemmas.List.Sums.{fold_more}
use Rattle.clap.specs.Words.{Shape, with_subcommand}
use Rattle.clap.proofs.SimpleLemmas.{plain_fields}
use Rattle.mst_command.specs.Table.{verbs}
use Rattle.mst_command.specs.Words.{no_command}
use Rattle.mst_command.proofs.Commands.{with_verb}
use Rattle.mst_command.proofs.command.command_line.Goals as goal

pub loop-verb-preserved : goal.loop-verb-preserved
loop-verb-preserved c =
    let is = c.in_ok-command_of.ensures in
    let plain = ap (λ (s : Shape). s.is_plain) is in
    c.in_ok-command-2.ensures.shape (plain_fields c.in_ok-command_of.field-0 plain).globals ∙ ap₂ with_subcommand c.loop-verb.invariant is ∙ sym (fold_more with_verb no_command verbs c.loop-verb.verb-index _ c.loop-verb-test.true)
