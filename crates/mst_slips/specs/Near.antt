-- Names that are nearly one.
use Rattle.std.specs.Prelude.{◌≡◌, ◌≢◌, ℕ, ◌≤◌, ◌==◌, ◌||◌, ◌&&◌, not, filter, Bool, List, [], ◌∷◌, ◌++◌, length, map, if◌then◌else◌}
use Rattle.std.specs.Char.{is_ascii_digit, to_ascii_lowercase}
use Rattle.mst_view.specs.Aggregation.{same_name}

-- two names are one but for the case of ASCII letters
abbrev pub are_one_in_lower_case : List ℕ → List ℕ → Bool
are_one_in_lower_case a b = same_name (map to_ascii_lowercase a) (map to_ascii_lowercase b)

-- two names differ by one letter: behind the letters that both begin with, one is exchanged, or stands in only one of them
abbrev pub are_one_letter_apart : List ℕ → List ℕ → Bool
are_one_letter_apart [] b = length b == 1
are_one_letter_apart (x ∷ a) [] = length a == 0
are_one_letter_apart (x ∷ a) (y ∷ b) = if x == y then are_one_letter_apart a b else same_name a b || same_name a (y ∷ b) || same_name (x ∷ a) b

-- names that differ in digits alone are a numbering, and no slip: without their digits they are one
abbrev pub is_letter : ℕ → Bool
is_letter c = not (is_ascii_digit c)

abbrev pub are_numbered : List ℕ → List ℕ → Bool
are_numbered a b = same_name (filter is_letter a) (filter is_letter b)

abbrev pub are_near : List ℕ → List ℕ → Bool
are_near a b = not (are_numbered a b) && (are_one_in_lower_case a b || are_one_letter_apart a b)

-- what this says: one letter of the one name, or none, stands in place of one letter of the other, or of none, and before and
-- behind it the names are the same
pub record DifferByOneLetter (a b : List ℕ) : Type 0 where
  pub before : List ℕ
  pub one : List ℕ
  pub other : List ℕ
  pub behind : List ℕ
  pub first : a ≡ before ++ one ++ behind
  pub second : b ≡ before ++ other ++ behind
  pub short : (length one ≤ 1) × (length other ≤ 1)
  pub differ : one ≢ other
