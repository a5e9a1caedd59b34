-- A table of numbers that have room, each with a value.
use Rattle.std.specs.Prelude.{◌≡◌, ◌≢◌, ◌⊎◌, ℕ, List, [], ◌∷◌, ◌++◌, Option, Some, false}
use Rattle.std.specs.List.{Contains}
use Rattle.std.specs.Ordering.{is_gt}
use Rattle.std.specs.declared.cmp.Ordering.{Ordering}
use Rattle.mst_topology.specs.Chains.{IsAt}

-- each number leads to its entry, and each entry is led to
pub record IsSlots {T : Type 0} (place_of : ℕ → Option ℕ) (entries : List (ℕ × T)) : Type 0 where
  pub found : (n i : ℕ) → place_of n ≡ Some i → (x : T) × IsAt entries i (n, x)
  pub back : (n i : ℕ) (x : T) → IsAt entries i (n, x) → place_of n ≡ Some i

-- there is room for the number
abbrev pub HasRoom : {T : Type 0} → List (ℕ × T) → ℕ → Type 0
HasRoom {T} entries n = (x : T) × Contains entries (n, x)

-- there is room for n, where there was none with this value
abbrev pub IsReserved : {T : Type 0} → List (ℕ × T) → ℕ → T → List (ℕ × T) → Type 0
IsReserved old n x new = HasRoom old n × (new ≡ old) ⊎ (new ≡ old ++ (n, x) ∷ [])

-- n has this value, and the others have theirs
pub record IsSetAt {T : Type 0} (old : List (ℕ × T)) (n : ℕ) (value : T) (new : List (ℕ × T)) : Type 0 where
  pub here : (x : T) → Contains new (n, x) → x ≡ value
  pub others : (j : ℕ) (x : T) → j ≢ n → Contains new (j, x) → Contains old (j, x)
  pub stay : (j : ℕ) (x : T) → j ≢ n → Contains old (j, x) → Contains new (j, x)
  pub has : Contains new (n, value)

-- n has the least key
pub record IsLeastKey {V : Type 0} (order : V → V → Ordering) (entries : List (ℕ × Option V)) (n : ℕ) (x : V) : Type 0 where
  pub has : Contains entries (n, Some x)
  pub upto : (j : ℕ) (y : V) → Contains entries (j, Some y) → is_gt (order x y) ≡ false
