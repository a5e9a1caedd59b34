-- The words of a line with one space between two of them.
use Rattle.std.proofs.Common.{◌≡◌, ℕ, ◌<◌, true, false, cond, List, [], ◌∷◌, ◌++◌, length, refl, sym, ap, ◌∙◌, append_assoc, arith}
use Rattle.std.specs.Prelude.{◌==◌, ◌||◌, nat_le}
use Rattle.std.specs.List.{list_all, flat_map, AllByRecursion}
use Rattle.std.proofs.lemmas.Bool.{and_from, and_parts, or_from, leb-true, le-leb, ne_eqb}
use Rattle.std.proofs.lemmas.List.Folds.{list_all-append}
use Rattle.std.proofs.lemmas.List.{append-nil}
use Rattle.mst_ids.specs.Texts.{is_conf_name_byte}
use Rattle.mst_ids.specs.Words.{after_space}
use Rattle.mst_lang.specs.Words.{is_blank, is_plain, word_end, words_from, words}
use Rattle.mst_edits.specs.EditLine.{spaced}

-- a word: some bytes of 21 to 7E hexadecimal
pub record IsWord (word : List ℕ) : Type 0 where
  pub some : 0 < length word
  pub bytes : list_all is_conf_name_byte word ≡ true

abbrev pub AreWords : List (List ℕ) → Type 0
AreWords words = AllByRecursion IsWord words

not_blank : (b : ℕ) → is_conf_name_byte b ≡ true → is_blank b ≡ false
not_blank b h =
    let both = and_parts (nat_le 33 b) (nat_le b 126) h in
    let low = leb-true 33 b both.0 in
    or_from (b == 32) (b == 9) (ne_eqb b 32 (λ e. omega arith)) (ne_eqb b 9 (λ e. omega arith))

plain : (b : ℕ) → is_conf_name_byte b ≡ true → is_plain b ≡ true
plain b h =
    let both = and_parts (nat_le 33 b) (nat_le b 126) h in
    let low = leb-true 33 b both.0 in
    ap (λ t. t || b == 9) (and_from (nat_le 32 b) (nat_le b 126) (le-leb 32 b (omega arith)) both.1)

plain_bytes : (word : List ℕ) → list_all is_conf_name_byte word ≡ true → list_all is_plain word ≡ true
plain_bytes [] h = refl
plain_bytes (b ∷ bs) h = let both = and_parts (is_conf_name_byte b) (list_all is_conf_name_byte bs) h in and_from (is_plain b) (list_all is_plain bs) (plain b both.0) (plain_bytes bs both.1)

pub spaced_is_plain : (ws : List (List ℕ)) → AreWords ws → list_all is_plain (spaced ws) ≡ true
spaced_is_plain [] h = refl
spaced_is_plain (w ∷ ws) h = list_all-append is_plain w (flat_map after_space ws) ∙ and_from (list_all is_plain w) _ (plain_bytes w h.0.bytes) (others ws h.1)
  where
    others : (ws : List (List ℕ)) → AreWords ws → list_all is_plain (flat_map after_space ws) ≡ true
    others [] h = refl
    others (w ∷ ws) h = list_all-append is_plain w (flat_map after_space ws) ∙ and_from (list_all is_plain w) _ (plain_bytes w h.0.bytes) (others ws h.1)

-- ---- the words of what is written so
ended : (front : List ℕ) (others : List (List ℕ)) → 0 < length front → word_end front others ≡ front ∷ others
ended [] others h = absurd (omega arith)
ended (b ∷ bs) others h = refl

one_more : (front : List ℕ) (b : ℕ) (rest : List ℕ) → is_blank b ≡ false → words_from front (b ∷ rest) ≡ words_from (front ++ b ∷ []) rest
one_more front b rest h = ap (λ t. cond t (word_end front (words_from [] rest)) (words_from (front ++ b ∷ []) rest)) h

through : (front word rest : List ℕ) → list_all is_conf_name_byte word ≡ true → words_from front (word ++ rest) ≡ words_from (front ++ word) rest
through front [] rest h = ap (λ l. words_from l rest) (sym (append-nil front))
through front (b ∷ bs) rest h =
    let both = and_parts (is_conf_name_byte b) (list_all is_conf_name_byte bs) h in
    one_more front b (bs ++ rest) (not_blank b both.0) ∙ through (front ++ b ∷ []) bs rest both.1 ∙ ap (λ l. words_from l rest) (append_assoc front (b ∷ []) bs)

words_are : (w : List ℕ) (ws : List (List ℕ)) → IsWord w → AreWords ws → words_from [] (w ++ flat_map after_space ws) ≡ w ∷ ws
words_are w [] h others = through [] w [] h.bytes ∙ ended w [] h.some
words_are w (v ∷ vs) h others = through [] w (32 ∷ v ++ flat_map after_space vs) h.bytes ∙ ended w (words_from [] (v ++ flat_map after_space vs)) h.some ∙ ap (λ l. w ∷ l) (words_are v vs others.0 others.1)

pub words_of_spaced : (ws : List (List ℕ)) → AreWords ws → words (spaced ws) ≡ ws
words_of_spaced [] h = refl
words_of_spaced (w ∷ ws) h = words_are w ws h.0 h.1
