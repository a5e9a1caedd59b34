use Rattle.std.proofs.Common.{string_bytes, sym, ap, ◌∙◌}
use Rattle.mst_command.specs.Words.{is_dashes}
use Rattle.mst_command.proofs.Parting.{none_behind}
use Rattle.mst_command.proofs.flags.has_flag.Goals as goal

pub returns-then-is_dashes : goal.returns-then-is_dashes
returns-then-is_dashes c =
    let dashes = ap (λ w. is_dashes (string_bytes w)) (sym c.word-item.is) ∙ sym c.is_dashes.ensures ∙ c.if-is_dashes.true in
    sym (c.loop-word.invariant ∙ none_behind c.args.flag.now c.args.words.now c.loop-word.word-index c.word-item.result c.loop-word-test.true dashes)
