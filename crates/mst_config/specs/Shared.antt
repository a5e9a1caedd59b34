-- What regions a network's bridges are in, by their numbers.
use Rattle.std.specs.Prelude.{◌≡◌, ℕ, ◌==◌, ◌||◌, Bool, false, List, Some, None, nat_eq}
use Rattle.std.specs.Option.{option_map_or}
use Rattle.std.specs.Map.{lookup}
use Rattle.std.specs.FinMap as fin
use Rattle.mst_tables.specs.Tables.{Net, Numbers}
use Rattle.mst_config.specs.Regions.{same_region, region_of}

-- two numbers are in one class where they are equal, or where both stand for one value
abbrev pub same_in : List (ℕ × ℕ) → ℕ → ℕ → Bool
same_in region_ids n m = n == m || option_map_or (λ i. option_map_or (λ j. i == j) (lookup (nat_eq m) region_ids) false) (lookup (nat_eq n) region_ids) false

-- no bridge has the number
abbrev pub IsUnused : Numbers → ℕ → Type 0
IsUnused numbers n = (a : List ℕ) → fin.get numbers.bridges a ≡ Some n → ⊥

-- each bridge's number has the identifier of the bridge's region, and a number that no bridge has, has none. So
-- the numbers of two bridges are in one class just where the bridges are in one region, and a number that no
-- bridge has is in a class of its own
pub record AreRegions (net : Net) (numbers : Numbers) (region_ids : List (ℕ × ℕ)) : Type 0 where
  pub identifiers : (a : List ℕ) (n : ℕ) → fin.get numbers.bridges a ≡ Some n → lookup (nat_eq n) region_ids ≡ Some (region_of net a)
  pub no_identifier : (n : ℕ) → IsUnused numbers n → lookup (nat_eq n) region_ids ≡ None
  pub regions : (a b : List ℕ) (n m : ℕ) → fin.get numbers.bridges a ≡ Some n → fin.get numbers.bridges b ≡ Some m → same_in region_ids n m ≡ same_region net a b
  pub others : (n m : ℕ) → IsUnused numbers n → same_in region_ids n m ≡ (n == m)
  pub others_too : (n m : ℕ) → IsUnused numbers m → same_in region_ids n m ≡ (n == m)
