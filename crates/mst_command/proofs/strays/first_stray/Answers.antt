use Rattle.std.proofs.Common.{◌∷◌, arith, drop, map, string_bytes, sym, ap, ◌∙◌}
use Rattle.mst_command.proofs.Meanings.{first_is, first_word}
use Rattle.mst_command.proofs.strays.first_stray.Goals as goal

pub returns-in-len1-up : goal.returns-in-len1-up
returns-in-len1-up c =
    let all = map string_bytes c.args.words.now in
    let behind = map string_bytes (drop 1 c.args.words.now) in
    let here = ap (λ w. string_bytes w ∷ behind) (sym c.word-item.is) ∙ ap (λ w. w ∷ behind) (sym c.as_str.ensures.value) in
    first_is all c.as_str.result c.stray_of.result behind (first_word c.args.words.now c.word-item.result (omega arith) ∙ here) c.stray_of.ensures.word c.stray_of.ensures.meant
