-- What a word was meant for that stands where the program has no such word.
use Rattle.std.specs.Prelude.{◌≡◌, ◌==◌, ◌||◌, ◌&&◌, ℕ, Bool, false, not, List, [], ◌∷◌, Option, Some, None, codes, unwrap_or, if◌then◌else◌}
use Rattle.std.specs.List.{Contains, list_any}
use Rattle.std.specs.Str.{bytes_eq}
use Rattle.mst_frame.specs.hints.Near.{is_in_case, is_within_one}
use Rattle.mst_command.specs.declared.strays.Meant.{Meant}
use Rattle.mst_command.specs.declared.strays.Meant.TheVariants.{Json, Hints, Help, Version, Flag}

-- a word behind a hyphen, if it begins with one
abbrev pub has_hyphen : List ℕ → Bool
has_hyphen [] = false
has_hyphen (b ∷ word) = b == 45

abbrev pub behind_hyphen : List ℕ → List ℕ
behind_hyphen [] = []
behind_hyphen (b ∷ word) = if b == 45 then word else b ∷ word

-- behind the hyphens before it, of which there may be two
abbrev pub bare : List ℕ → List ℕ
bare word = behind_hyphen (behind_hyphen word)

-- a word is nearly another: that but for its case, or but for one change of a letter
abbrev pub is_nearly : List ℕ → List ℕ → Bool
is_nearly other word = is_in_case other word || is_within_one other word

-- what of the program's words with hyphens a word without them nearly is
abbrev pub option_like : List ℕ → Option Meant
option_like word =
    if is_nearly (codes "json") word then Some Json
    else if is_nearly (codes "hints") word then Some Hints
    else if is_nearly (codes "help") word then Some Help
    else if is_nearly (codes "version") word then Some Version
    else None

-- what a word was meant for, if that is known: one of these, or with two hyphens a flag that there isn't
abbrev pub meant_or : Option Meant → Option Meant → Option Meant
meant_or None other = other
meant_or (Some meant) other = Some meant

abbrev pub meant_by : List ℕ → Option Meant
meant_by word = meant_or (option_like (bare word)) (if has_hyphen word && has_hyphen (behind_hyphen word) then Some Flag else None)

-- this is one of these words, which begins with a hyphen or is the first of them, and was meant for that
pub record IsStray (words : List (List ℕ)) (word : List ℕ) (meant : Meant) : Type 0 where
  pub among : Contains words word
  pub first : has_hyphen word ≡ false → (behind : List (List ℕ)) × (words ≡ word ∷ behind)
  pub is_meant : meant_by word ≡ Some meant

-- ---- what is looked for before words are read

-- a word begins with one hyphen and is none of those that the program knows: `-`, `-h` and `-V`
abbrev pub is_unknown : List ℕ → Bool
is_unknown word = has_hyphen word && not (has_hyphen (behind_hyphen word)) && not (list_any (bytes_eq word) (codes "-" ∷ codes "-h" ∷ codes "-V" ∷ []))

-- the first such word before `--`
abbrev pub first_unknown : List (List ℕ) → Option (List ℕ)
first_unknown [] = None
first_unknown (word ∷ words) = if bytes_eq word (codes "--") then None else if is_unknown word then Some word else first_unknown words

-- it was meant for what it nearly is, and else for a flag that there isn't
abbrev pub meant_by_unknown : List ℕ → Meant
meant_by_unknown word = unwrap_or (option_like (bare word)) Flag
