-- The words that a line of a policy may begin with, and which of them is nearest to another word.
use Rattle.std.specs.Prelude.{ℕ, Bool, List, [], ◌∷◌, Option, codes, find, map}
use Rattle.std.specs.Option.{option_map, option_or}
use Rattle.mst_hints.specs.Near.{is_in_case, is_within_one, is_within_two}
use Rattle.mst_policy.specs.Forms.{Row, row_of, all_kinds}
use Rattle.mst_policy_hints.specs.declared.near.Near.{Near}
use Rattle.mst_policy_hints.specs.declared.near.Near.TheVariants.{InCase, ByOne, ByTwo}

-- the table of forms: a word, which form it is, and what stands behind it
abbrev pub rows : List Row
rows = map row_of all_kinds

-- the words that stand before an expectation
abbrev pub fronts : List (List ℕ)
fronts = codes "after" ∷ codes "always" ∷ codes "finally" ∷ codes "risk" ∷ []

-- whether a word of a policy is as near to another one: it but for its case, or at most one or two changes from it
abbrev pub is_near : Near → List ℕ → List ℕ → Bool
is_near InCase text word = is_in_case text word
is_near ByOne text word = is_within_one text word
is_near ByTwo text word = is_within_two text word

-- the first expectation of the table that is as near, and the first word that stands before one
abbrev pub expectation_near : Near → List ℕ → Option (List ℕ)
expectation_near near word = option_map (λ row. row.0) (find (λ row. is_near near row.0 word) rows)

abbrev pub front_near : Near → List ℕ → Option (List ℕ)
front_near near word = find (λ text. is_near near text word) fronts

unfoldable pub word_near : Near → List ℕ → Option (List ℕ)
word_near near word = option_or (expectation_near near word) (front_near near word)

-- the word that is nearest
abbrev pub by_changes : List ℕ → Option (List ℕ)
by_changes word = option_or (word_near ByOne word) (word_near ByTwo word)

unfoldable pub nearest : List ℕ → Option (List ℕ)
nearest word = option_or (word_near InCase word) (by_changes word)
