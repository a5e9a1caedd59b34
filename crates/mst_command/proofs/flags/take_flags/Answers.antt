use Rattle.std.proofs.Common.{◌<◌, ◌≤◌, length, arith, map, string_bytes, sym, ap, ◌∙◌}
use Rattle.mst_command.specs.Flags.{is_flag, without_flags_behind}
use Rattle.mst_command.specs.Words.{is_dashes}
use Rattle.mst_command.proofs.Parting.{all_looked_at, looked_at_dashes, word_kept}
use Rattle.mst_command.proofs.flags.take_flags.Goals as goal

pub returns-then-is_dashes : goal.returns-then-is_dashes
returns-then-is_dashes c =
    let words = c.loop-place.words.items in
    let within : c.loop-place.place < length words = omega arith in
    let dashes = ap (λ w. is_dashes (string_bytes w)) (sym c.index-word.ensures) ∙ sym c.is_dashes.ensures ∙ c.if-is_dashes.true in
    looked_at_dashes (without_flags_behind (map string_bytes c.args.words.now.items)) words c.loop-place.place c.index-word.result.now within dashes c.loop-place.invariant

pub returns : goal.returns
returns c =
    let all : length c.loop-place.words.items ≤ c.loop-place.place = omega arith in
    all_looked_at (without_flags_behind (map string_bytes c.args.words.now.items)) c.loop-place.words.items c.loop-place.place all c.loop-place.invariant

pub loop-place-preserved : goal.loop-place-preserved
loop-place-preserved c =
    let words = c.loop-place.words.items in
    let within : c.loop-place.place < length words = omega arith in
    let item = c.index-word.result.now in
    let other = ap (λ w. is_dashes (string_bytes w)) (sym c.index-word.ensures) ∙ sym c.is_dashes.ensures ∙ c.if-is_dashes.false in
    let stays = ap (λ w. is_flag (string_bytes w)) (sym c.index-word.ensures) ∙ sym c.is_flag.ensures ∙ c.if-is_flag.false in
    word_kept (without_flags_behind (map string_bytes c.args.words.now.items)) words c.loop-place.place item within other stays c.loop-place.invariant
