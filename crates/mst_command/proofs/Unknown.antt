-- Words of one hyphen that the program doesn't know.
use Rattle.std.proofs.Common.{◌≡◌, ◌==◌, ◌<◌, ℕ, ◌+◌, Bool, true, false, not, List, [], ◌∷◌, Option, Some, None, codes, drop, length, get_or, string_bytes, String, refl, sym, ap, ap₂, subst, ◌∙◌}
use Rattle.std.specs.Prelude.{◌&&◌, ◌||◌, if◌then◌else◌}
use Rattle.std.specs.Str.{bytes_eq}
use Rattle.std.specs.declared.alloc.Global.{Global}
use Rattle.std.proofs.lemmas.Bool.{eqb-true, false≢true}
use Rattle.std.proofs.lemmas.List.{drop_more}
use Rattle.std.proofs.lemmas.Slice.Eq.{bytes_eq-Decides}
use Rattle.mst_command.specs.Strays.{first_unknown, is_unknown}
use Rattle.mst_command.specs.Words.{are_plain, are_values, is_dashes, is_help, is_plain, is_version}
use Rattle.mst_command.proofs.Parting.{texts}
use Rattle.mst_command.proofs.PlainWords.{both_so}

-- ---- words among which there is none

not_hyphen : (b : ℕ) → (b == 45) ≡ false → (rest : List ℕ) → is_unknown (b ∷ rest) ≡ false
not_hyphen b e rest = ap (λ (x : Bool). x && not (go x) && not (bytes_eq (b ∷ rest) (codes "-") || (bytes_eq (b ∷ rest) (codes "-h") || (bytes_eq (b ∷ rest) (codes "-V") || false)))) e
  where
    has : List ℕ → Bool
    has [] = false
    has (c ∷ word) = c == 45

    go : Bool → Bool
    go x = has (if x then rest else b ∷ rest)

plain_known : (word : List ℕ) → is_plain word ≡ true → is_unknown word ≡ false
plain_known [] h = refl
plain_known (b ∷ []) h = go (b == 45) refl
  where
    go : (x : Bool) → (b == 45) ≡ x → is_unknown (b ∷ []) ≡ false
    go true e = subst (λ n. is_unknown (n ∷ []) ≡ false) (sym (eqb-true b 45 e)) refl
    go false e = not_hyphen b e []
plain_known (b ∷ c ∷ rest) h = go (b == 45) refl h
  where
    go : (x : Bool) → (b == 45) ≡ x → not x ≡ true → is_unknown (b ∷ c ∷ rest) ≡ false
    go true e h = absurd (false≢true h)
    go false e h = not_hyphen b e (c ∷ rest)

abbrev first_by : Bool → Bool → List ℕ → Option (List ℕ) → Option (List ℕ)
first_by dashes unknown word later = if dashes then None else if unknown then Some word else later

values_known : (words : List (List ℕ)) → are_values words ≡ true → first_unknown words ≡ None
values_known [] h = refl
values_known (word ∷ words) h = go (values_known words) (is_dashes word) refl h
  where
    go : (are_values words ≡ true → first_unknown words ≡ None) → (x : Bool) → is_dashes word ≡ x → (x || (is_plain word && are_values words)) ≡ true → first_unknown (word ∷ words) ≡ None
    go later true e h = ap (λ x. first_by x (is_unknown word) word (first_unknown words)) e
    go later false e h =
        let both = both_so (is_plain word) (are_values words) h in
        ap₂ (λ x y. first_by x y word (first_unknown words)) e (plain_known word both.0) ∙ later both.1

-- words that aren't options
pub plain_words : (words : List (List ℕ)) → are_plain words ≡ true → first_unknown words ≡ None
plain_words [] h = refl
plain_words (word ∷ words) h = values_known (word ∷ words) (go (is_dashes word) (is_plain word && are_values words) h)
  where
    go : (x y : Bool) → y ≡ true → (x || y) ≡ true
    go true y h = refl
    go false y h = h

-- one of two words
one_of_two : (one two word : List ℕ) → first_unknown (one ∷ []) ≡ None → first_unknown (two ∷ []) ≡ None → (bytes_eq one word || (bytes_eq two word || false)) ≡ true → first_unknown (word ∷ []) ≡ None
one_of_two one two word first second h = go (bytes_eq one word) (bytes_eq two word) refl refl h
  where
    go : (x y : Bool) → bytes_eq one word ≡ x → bytes_eq two word ≡ y → (x || (y || false)) ≡ true → first_unknown (word ∷ []) ≡ None
    go true y e f h = subst (λ w. first_unknown (w ∷ []) ≡ None) ((bytes_eq-Decides one word).0 e) first
    go false true e f h = subst (λ w. first_unknown (w ∷ []) ≡ None) ((bytes_eq-Decides two word).0 f) second
    go false false e f h = absurd (false≢true h)

-- those that ask for help, and for the version
pub help_known : (words : List (List ℕ)) → is_help words ≡ true → first_unknown words ≡ None
help_known [] h = refl
help_known (word ∷ []) h = one_of_two (codes "--help") (codes "-h") word refl refl h
help_known (word ∷ other ∷ rest) h = absurd (false≢true h)

pub version_known : (words : List (List ℕ)) → is_version words ≡ true → first_unknown words ≡ None
version_known [] h = refl
version_known (word ∷ []) h = one_of_two (codes "--version") (codes "-V") word refl refl h
version_known (word ∷ other ∷ rest) h = absurd (false≢true h)

-- ---- the first of words, one after another
more : (words : List (String Global)) (i : ℕ) (d : String Global) → i < length words
    → first_unknown (texts (drop i words)) ≡ first_by (is_dashes (string_bytes (get_or words i d))) (is_unknown (string_bytes (get_or words i d))) (string_bytes (get_or words i d)) (first_unknown (texts (drop (i + 1) words)))
more words i d h = ap (λ l. first_unknown (texts l)) (drop_more words i d h)

pub none_behind : (words : List (String Global)) (i : ℕ) (d : String Global) → i < length words → is_dashes (string_bytes (get_or words i d)) ≡ true → first_unknown (texts (drop i words)) ≡ None
none_behind words i d h dashes =
    more words i d h ∙ ap (λ x. first_by x (is_unknown (string_bytes (get_or words i d))) (string_bytes (get_or words i d)) (first_unknown (texts (drop (i + 1) words)))) dashes

pub found_here : (words : List (String Global)) (i : ℕ) (d : String Global) → i < length words → is_dashes (string_bytes (get_or words i d)) ≡ false → is_unknown (string_bytes (get_or words i d)) ≡ true
    → first_unknown (texts (drop i words)) ≡ Some (string_bytes (get_or words i d))
found_here words i d h dashes is = more words i d h ∙ ap₂ (λ x y. first_by x y (string_bytes (get_or words i d)) (first_unknown (texts (drop (i + 1) words)))) dashes is

pub found_later : (words : List (String Global)) (i : ℕ) (d : String Global) → i < length words → is_dashes (string_bytes (get_or words i d)) ≡ false → is_unknown (string_bytes (get_or words i d)) ≡ false
    → first_unknown (texts (drop i words)) ≡ first_unknown (texts (drop (i + 1) words))
found_later words i d h dashes is = more words i d h ∙ ap₂ (λ x y. first_by x y (string_bytes (get_or words i d)) (first_unknown (texts (drop (i + 1) words)))) dashes is
