-- Lists of a fixed number of words.
use Rattle.std.proofs.Common.{◌≡◌, ℕ, List, [], ◌∷◌, Some, None, is_some, sym, ap, true≢false}
use Rattle.std.specs.Option.{unwrap_or}
use Rattle.mst_lang.specs.Words.{one_of, two_of, three_of, four_of}

no_words : {X : Type 0} (x : X) → Some x ≡ None → ⊥
no_words x e = true≢false (ap is_some e)

-- one to four words are the list of them
pub one_word_is : (l : List (List ℕ)) (a : List ℕ) → Some a ≡ one_of l → l ≡ a ∷ []
one_word_is [] a e = absurd (no_words a e)
one_word_is (x ∷ []) a e = let same : a ≡ x = ap (λ o. unwrap_or o a) e in sym (ap (λ w. w ∷ []) same)
one_word_is (x ∷ y ∷ l) a e = absurd (no_words a e)

pub two_words_are : (l : List (List ℕ)) (a b : List ℕ) → Some (a, b) ≡ two_of l → l ≡ a ∷ b ∷ []
two_words_are [] a b e = absurd (no_words (a, b) e)
two_words_are (x ∷ []) a b e = absurd (no_words (a, b) e)
two_words_are (x ∷ y ∷ []) a b e = let same : (a, b) ≡ (x, y) = ap (λ o. unwrap_or o (a, b)) e in sym (ap (λ (p : List ℕ × List ℕ). p.0 ∷ p.1 ∷ []) same)
two_words_are (x ∷ y ∷ z ∷ l) a b e = absurd (no_words (a, b) e)

pub three_words_are : (l : List (List ℕ)) (a b c : List ℕ) → Some (a, b, c) ≡ three_of l → l ≡ a ∷ b ∷ c ∷ []
three_words_are [] a b c e = absurd (no_words (a, b, c) e)
three_words_are (x ∷ []) a b c e = absurd (no_words (a, b, c) e)
three_words_are (x ∷ y ∷ []) a b c e = absurd (no_words (a, b, c) e)
three_words_are (x ∷ y ∷ z ∷ []) a b c e = let same : (a, b, c) ≡ (x, y, z) = ap (λ o. unwrap_or o (a, b, c)) e in sym (ap (λ (p : List ℕ × List ℕ × List ℕ). p.0 ∷ p.1 ∷ p.2 ∷ []) same)
three_words_are (x ∷ y ∷ z ∷ w ∷ l) a b c e = absurd (no_words (a, b, c) e)

pub four_words_are : (l : List (List ℕ)) (a b c d : List ℕ) → Some (a, b, c, d) ≡ four_of l → l ≡ a ∷ b ∷ c ∷ d ∷ []
four_words_are [] a b c d e = absurd (no_words (a, b, c, d) e)
four_words_are (x ∷ []) a b c d e = absurd (no_words (a, b, c, d) e)
four_words_are (x ∷ y ∷ []) a b c d e = absurd (no_words (a, b, c, d) e)
four_words_are (x ∷ y ∷ z ∷ []) a b c d e = absurd (no_words (a, b, c, d) e)
four_words_are (x ∷ y ∷ z ∷ w ∷ []) a b c d e = let same : (a, b, c, d) ≡ (x, y, z, w) = ap (λ o. unwrap_or o (a, b, c, d)) e in sym (ap (λ (p : List ℕ × List ℕ × List ℕ × List ℕ). p.0 ∷ p.1 ∷ p.2 ∷ p.3 ∷ []) same)
four_words_are (x ∷ y ∷ z ∷ w ∷ v ∷ l) a b c d e = absurd (no_words (a, b, c, d) e)
