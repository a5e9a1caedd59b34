-- Tables of values by number as functions, and the index of a list by numbers.
use Rattle.std.specs.Prelude.{◌≡◌, ◌⊎◌, ℕ, ◌<◌, List, length, Option, Some, None, IsSome}
use Rattle.std.specs.List.{Contains, slice_index_or}
use Rattle.std.specs.Ordering.{nat_cmp}
use Rattle.std.specs.Map.{lookup}
use Rattle.std.specs.BTreeMap.{is_at}
use Rattle.mst_topology.specs.Settling.{IsPut}

-- what a table has at a number
abbrev pub in_map : {V : Type 0} → List (ℕ × V) → ℕ → Option V
in_map values = λ n. lookup (is_at (nat_cmp n)) values

-- what a table of options has
abbrev pub flat : {A : Type 0} → Option (Option A) → Option A
flat None = None
flat (Some o) = o

-- what a table of options has at a number
abbrev pub option_at : {V : Type 0} → List (ℕ × Option V) → ℕ → Option V
option_at values = λ n. flat (lookup (is_at (nat_cmp n)) values)

-- whether there is room at a number
abbrev pub HasRoomAt : {V : Type 0} → List (ℕ × V) → ℕ → Type 0
HasRoomAt values n = IsSome (lookup (is_at (nat_cmp n)) values)

-- the table has room for the number k, with this value where there was none
abbrev pub MakesRoom : {V : Type 0} → List (ℕ × V) → List (ℕ × V) → ℕ → V → Type 0
MakesRoom old new k value = HasRoomAt old k × (new ≡ old) ⊎ (in_map old k ≡ None) × IsPut (in_map old) k value (in_map new)

-- each number in the list leads to its place, and no other number leads anywhere
pub record IsIndex {B : Type 0} (place_of : ℕ → Option ℕ) (bridges : List (ℕ × B)) : Type 0 where
  pub found : (n i : ℕ) → place_of n ≡ Some i → (b : B) × (i < length bridges) × (slice_index_or bridges i (n, b) ≡ (n, b))
  pub missing : (n : ℕ) (b : B) → place_of n ≡ None → Contains bridges (n, b) → ⊥
