use Rattle.std.proofs.Common.{◌∷◌, ◌∙◌, ap, sym}
use Rattle.mst_lang.specs.Words.{words, four_of}
use Rattle.mst_lang.proofs.WordsLemmas.{three_words_are}
use Rattle.mst_lang.proofs.words.four_words.Goals as goal

pub returns : goal.returns
returns c =
    let others = three_words_are (words c.in_ok-first.rest.now) c.in_ok-second.second.now c.in_ok-second.third.now c.in_ok-second.fourth.now c.in_ok-second.ensures in
    sym (ap four_of (c.in_ok-first.ensures ∙ ap (λ l. c.in_ok-first.first.now ∷ l) others))
