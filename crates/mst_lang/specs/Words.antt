-- The words of a line.
use Rattle.std.specs.Prelude.{ℕ, Bool, ◌==◌, ◌||◌, ◌&&◌, List, [], ◌∷◌, ◌++◌, nat_le, if◌then◌else◌, Option, Some, None}

-- a space or a tab, which separate words
abbrev pub is_blank : ℕ → Bool
is_blank b = b == 32 || b == 9

-- a byte that a line may hold, comments aside
abbrev pub is_plain : ℕ → Bool
is_plain b = (nat_le 32 b && nat_le b 126) || b == 9

-- a word that has ended, if it has a byte, and those that follow
abbrev pub word_end : List ℕ → List (List ℕ) → List (List ℕ)
word_end [] others = others
word_end (b ∷ bs) others = (b ∷ bs) ∷ others

-- the words of what follows, where `word` has come of the next one
abbrev pub words_from : List ℕ → List ℕ → List (List ℕ)
words_from word [] = word_end word []
words_from word (b ∷ bs) = if is_blank b then word_end word (words_from [] bs) else words_from (word ++ b ∷ []) bs

abbrev pub words : List ℕ → List (List ℕ)
words line = words_from [] line

-- one to four words and no more
abbrev pub one_of : List (List ℕ) → Option (List ℕ)
one_of (a ∷ []) = Some a
one_of _ = None

abbrev pub two_of : List (List ℕ) → Option (List ℕ × List ℕ)
two_of (a ∷ b ∷ []) = Some (a, b)
two_of _ = None

abbrev pub three_of : List (List ℕ) → Option (List ℕ × List ℕ × List ℕ)
three_of (a ∷ b ∷ c ∷ []) = Some (a, b, c)
three_of _ = None

abbrev pub four_of : List (List ℕ) → Option (List ℕ × List ℕ × List ℕ × List ℕ)
four_of (a ∷ b ∷ c ∷ d ∷ []) = Some (a, b, c, d)
four_of _ = None
