-- Places of things in a list by numbers that they have.
use Rattle.std.specs.Prelude.{◌≡◌, ℕ, ◌<◌, true, List, length, Some, is_some, nat_eq, slice_index_or}
use Rattle.std.specs.List.{AllByRecursion}
use Rattle.std.specs.Map.{lookup}

-- a number's place is that of a thing that has it, and each thing's number has one
pub record ArePlaces {A : Type 0} (number : A → ℕ) (things : List A) (places : List (ℕ × ℕ)) : Type 0 where
  pub in_list : (n place : ℕ) → lookup (nat_eq n) places ≡ Some place → place < length things
  pub has_number : (n place : ℕ) (d : A) → lookup (nat_eq n) places ≡ Some place → number (slice_index_or things place d) ≡ n
  pub each : AllByRecursion (λ x. is_some (lookup (nat_eq (number x)) places) ≡ true) things
