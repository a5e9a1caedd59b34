-- Which inputs names are of.
use Rattle.std.specs.Prelude.{◌≡◌, ◌≢◌, ◌⊎◌, ◌||◌, ℕ, Bool, true, false, List, [], Option, None, Some, codes, option_map}
use Rattle.std.specs.Borrow.{Bor}
use Rattle.std.specs.Str.{bytes_eq}
use Rattle.mst_drive.specs.Words.{Inputs}
use Rattle.mst_frame.specs.declared.inputs.Unserved.{Unserved}
use Rattle.mst_frame.specs.declared.inputs.Unserved.TheVariants.{Unopened, Starved}
use Rattle.mst_frame.specs.declared.sources.Unopened.{Unopened as Why}

-- a word that may be there
abbrev pub word_of : Option (Bor (List ℕ)) → Option (List ℕ)
word_of word = option_map (λ word. word.now) word

-- the input is what standard input gives where the name is `-`, of which nothing is left where it is taken, and else what the file of
-- this name has
pub record IsInput (IsGiven : Option (List ℕ) → Type 0) (IsFile : List ℕ → Option (List ℕ) → Type 0) (is_taken : Bool) (name : List ℕ) (input : Option (List ℕ)) : Type 0 where
  pub given : name ≡ codes "-" → is_taken ≡ false → IsGiven input
  pub nothing : name ≡ codes "-" → is_taken ≡ true → input ≡ Some []
  pub file : name ≢ codes "-" → IsFile name input

-- one that isn't named gives nothing
abbrev pub IsInputIf : (Option (List ℕ) → Type 0) → (List ℕ → Option (List ℕ) → Type 0) → Bool → Option (List ℕ) → Option (List ℕ) → Type 0
IsInputIf IsGiven IsFile is_taken None input = input ≡ Some []
IsInputIf IsGiven IsFile is_taken (Some name) input = IsInput IsGiven IsFile is_taken name input

abbrev pub is_standard : List ℕ → Bool
is_standard name = bytes_eq name (codes "-")

abbrev pub is_standard_if : Option (List ℕ) → Bool
is_standard_if None = false
is_standard_if (Some name) = is_standard name

-- Three inputs, of which the second and the third may have no name. The first whose name is `-` takes all of standard input
pub record AreNamed (IsGiven : Option (List ℕ) → Type 0) (IsFile : List ℕ → Option (List ℕ) → Type 0) (name : List ℕ) (other third : Option (List ℕ)) (given : Inputs) : Type 0 where
  pub is_first : IsInput IsGiven IsFile false name given.first
  pub is_second : IsInputIf IsGiven IsFile (is_standard name) other given.second
  pub is_third : IsInputIf IsGiven IsFile (is_standard name || is_standard_if other) third given.third

-- why the input of this name isn't read: its file, and no other, couldn't be opened for the reason that is told, or there is no memory
abbrev pub IsWhyNot : (List ℕ → Why → Type 0) → Bor (List ℕ) → Unserved → Type 0
IsWhyNot IsUnopened name (Unopened file why) = (file ≡ name) × (name.now ≢ codes "-") × IsUnopened name.now why
IsWhyNot IsUnopened name Starved = Unit {0}

-- the same of one that may have no name
abbrev pub IsWhyNotIf : (List ℕ → Why → Type 0) → Option (Bor (List ℕ)) → Unserved → Type 0
IsWhyNotIf IsUnopened None why = ⊥
IsWhyNotIf IsUnopened (Some name) why = IsWhyNot IsUnopened name why

-- why the three aren't read: the file that is told, one of theirs, couldn't be opened, or there is no memory
abbrev pub IsWhyNone : (List ℕ → Why → Type 0) → Bor (List ℕ) → Option (Bor (List ℕ)) → Option (Bor (List ℕ)) → Unserved → Type 0
IsWhyNone IsUnopened name other third why = IsWhyNot IsUnopened name why ⊎ (IsWhyNotIf IsUnopened other why ⊎ IsWhyNotIf IsUnopened third why)
