-- The keys of bridges in blocks of 32.
use Rattle.std.specs.Prelude.{◌≢◌, ℕ, ◌+◌, ◌*◌, ◌<◌, ◌≤◌, List, length, Option, Some, MatchOption}
use Rattle.std.specs.declared.cmp.Ordering.{Ordering}
use Rattle.mst_topology.specs.Best.{IsBestOf}
use Rattle.mst_topology.specs.Chains.{IsAt}

-- the key x stands at place k, which is in block b
pub record IsKeyIn {V : Type 0} (entries : List (ℕ × Option V)) (b k : ℕ) (x : V) : Type 0 where
  pub first : b * 32 ≤ k
  pub end : k < b * 32 + 32
  pub number : ℕ
  pub at : IsAt entries k (number, Some x)

-- and k is another place than i
abbrev pub IsOtherKeyIn : {V : Type 0} → List (ℕ × Option V) → ℕ → ℕ → ℕ → V → Type 0
IsOtherKeyIn entries b i k x = (k ≢ i) × IsKeyIn entries b k x

-- the best stands at another place than i
abbrev pub IsElsewhere : {V : Type 0} → ℕ → Option (ℕ × V) → Type 0
IsElsewhere i o = MatchOption o (Unit {0}) (λ b. b.0 ≢ i)

-- each place is in a block, and of each block the least key is known
pub record AreBests {V : Type 0} (order : V → V → Ordering) (entries : List (ℕ × Option V)) (bests : List (Option (ℕ × V))) : Type 0 where
  pub covers : length entries ≤ length bests * 32
  pub right : (b : ℕ) (o : Option (ℕ × V)) → IsAt bests b o → IsBestOf order (IsKeyIn entries b) (length entries) o
