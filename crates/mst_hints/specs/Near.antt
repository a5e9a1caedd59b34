-- How near two words are: how many changes of a letter make the one of the other. A change is a letter put in, a letter left
-- out, or two neighbours exchanged. So another letter in the place of one counts 2, since it is put in and the one is left out.
use Rattle.std.specs.Prelude.{ℕ, ◌+◌, Bool, true, false, ◌==◌, ◌||◌, ◌&&◌, List, [], ◌∷◌, nat_le, if◌then◌else◌}
use Rattle.mst_lang.specs.Arguments.{is_text}

-- two words that are `near` without the first letter of the one
abbrev pub left_out : (List ℕ → List ℕ → Bool) → List ℕ → List ℕ → Bool
left_out near [] other = false
left_out near (a ∷ one) other = near one other

-- without the first letter of the other
abbrev pub put_in : (List ℕ → List ℕ → Bool) → List ℕ → List ℕ → Bool
put_in near one [] = false
put_in near one (b ∷ other) = near one other

-- behind two letters that are exchanged
abbrev pub exchanged : (List ℕ → List ℕ → Bool) → List ℕ → List ℕ → Bool
exchanged near (a ∷ b ∷ one) (c ∷ d ∷ other) = a == d && (b == c && near one other)
exchanged near _ _ = false

-- `near` as they are, or after one change at the front
abbrev pub one_change : (List ℕ → List ℕ → Bool) → List ℕ → List ℕ → Bool
one_change near one other = near one other || (left_out near one other || (put_in near one other || exchanged near one other))

-- a test of what follows the letters at the front that they share, some of them or all
abbrev pub behind_shared : (List ℕ → List ℕ → Bool) → List ℕ → List ℕ → Bool
behind_shared test [] other = test [] other
behind_shared test (a ∷ one) [] = test (a ∷ one) []
behind_shared test (a ∷ one) (b ∷ other) = test (a ∷ one) (b ∷ other) || (a == b && behind_shared test one other)

-- at most one change
abbrev pub is_within_one : List ℕ → List ℕ → Bool
is_within_one = behind_shared (one_change is_text)

-- two changes of the same letters: of three the middle one is left out and its neighbours are exchanged, or the first one is
-- exchanged with the second, and then with the third
abbrev pub closed_up : List ℕ → List ℕ → Bool
closed_up (a ∷ middle ∷ b ∷ one) (c ∷ d ∷ other) = a == d && (b == c && is_text one other)
closed_up _ _ = false

abbrev pub put_back : List ℕ → List ℕ → Bool
put_back (a ∷ b ∷ c ∷ one) (d ∷ e ∷ f ∷ other) = a == f && (b == d && (c == e && is_text one other))
put_back _ _ = false

-- in either word
abbrev pub in_either : (List ℕ → List ℕ → Bool) → List ℕ → List ℕ → Bool
in_either test one other = test one other || test other one

-- at most two changes
abbrev pub two_changes : List ℕ → List ℕ → Bool
two_changes one other = one_change is_within_one one other || (in_either closed_up one other || in_either put_back one other)

abbrev pub is_within_two : List ℕ → List ℕ → Bool
is_within_two = behind_shared two_changes

-- ---- the same word, written in another way
-- a small letter for a capital one
abbrev pub lower_case : ℕ → ℕ
lower_case byte = if nat_le 65 byte && nat_le byte 90 then byte + 32 else byte

-- a word is a command but for its case
abbrev pub is_in_case : List ℕ → List ℕ → Bool
is_in_case [] [] = true
is_in_case [] (b ∷ word) = false
is_in_case (a ∷ command) [] = false
is_in_case (a ∷ command) (b ∷ word) = a == lower_case b && is_in_case command word

-- a word and the one behind it are a command that is written apart
abbrev pub is_joined : List ℕ → List ℕ → List ℕ → Bool
is_joined command [] behind = is_text command behind
is_joined [] (b ∷ word) behind = false
is_joined (a ∷ command) (b ∷ word) behind = a == b && is_joined command word behind
