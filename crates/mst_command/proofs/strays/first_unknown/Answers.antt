use Rattle.std.proofs.Common.{Some, string_bytes, sym, ap, ◌∙◌}
use Rattle.mst_command.specs.Strays.{is_unknown}
use Rattle.mst_command.specs.Words.{is_dashes}
use Rattle.mst_command.proofs.Unknown.{found_here, found_later, none_behind}
use Rattle.mst_command.proofs.strays.first_unknown.Goals as goal

pub returns-then-is_dashes : goal.returns-then-is_dashes
returns-then-is_dashes c =
    let dashes = ap (λ w. is_dashes (string_bytes w)) (sym c.word-item.is) ∙ sym c.is_dashes.ensures ∙ c.if-is_dashes.true in
    sym (c.loop-word.invariant ∙ none_behind c.args.words.now c.loop-word.word-index c.word-item.result c.loop-word-test.true dashes)

pub returns-then-is_unknown : goal.returns-then-is_unknown
returns-then-is_unknown c =
    let item = c.word-item.result in
    let other = ap (λ w. is_dashes (string_bytes w)) (sym c.word-item.is) ∙ sym c.is_dashes.ensures ∙ c.if-is_dashes.false in
    let unknown = ap (λ w. is_unknown (string_bytes w)) (sym c.word-item.is) ∙ ap is_unknown (sym c.as_str-text.ensures.value) ∙ sym c.is_unknown.ensures ∙ c.if-is_unknown.true in
    ap Some c.as_str-text.ensures.value ∙ ap (λ w. Some (string_bytes w)) c.word-item.is
    ∙ sym (c.loop-word.invariant ∙ found_here c.args.words.now c.loop-word.word-index item c.loop-word-test.true other unknown)

pub loop-word-preserved : goal.loop-word-preserved
loop-word-preserved c =
    let other = ap (λ w. is_dashes (string_bytes w)) (sym c.word-item.is) ∙ sym c.is_dashes.ensures ∙ c.if-is_dashes.false in
    let known = ap (λ w. is_unknown (string_bytes w)) (sym c.word-item.is) ∙ ap is_unknown (sym c.as_str-text.ensures.value) ∙ sym c.is_unknown.ensures ∙ c.if-is_unknown.false in
    c.loop-word.invariant ∙ found_later c.args.words.now c.loop-word.word-index c.word-item.result c.loop-word-test.true other known
