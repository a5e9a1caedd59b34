-- The keys of bridges that are known.
use Rattle.std.specs.Prelude.{◌≡◌, ℕ, List, Option, Some}
use Rattle.std.specs.List.{Contains}

-- where a key is known, or that there is none, it is the bridge's, which has no other
pub record AreKnown {V : Type 0} (keys : List (ℕ × Option V)) (known : ℕ → Option (Option (Option V))) : Type 0 where
  pub there : (n : ℕ) (k : Option V) → known n ≡ Some (Some k) → Contains keys (n, k)
  pub alone : (n : ℕ) (k l : Option V) → known n ≡ Some (Some k) → Contains keys (n, l) → l ≡ k
