-- When a stored vector is the one that is due, and the turn of a bridge where it is not.
use Rattle.std.specs.Prelude.{◌≡◌, ◌≢◌, ◌⊎◌, ◌↔◌, ℕ, ◌*◌, ◌≤◌, List, length, Option, Some, None, Bool, true, false, cond}
use Rattle.std.specs.List.{Contains}
use Rattle.std.specs.List.Sorted.{IsStrictlyIncreasing}
use Rattle.std.specs.Ordering.{is_gt, is_eq}
use Rattle.std.specs.declared.cmp.Ordering.{Ordering}
use Rattle.mst_vector.specs.Rules.{Rules}
use Rattle.mst_topology.specs.Topology.{Topology, HasBridge}
use Rattle.mst_topology.specs.Settled.{IsVectorOf}

-- w has o at n, and elsewhere what v has
abbrev pub IsWritten : {N V : Type 0} → (N → Option V) → N → Option V → (N → Option V) → Type 0
IsWritten {N} v n o w = (k : N) → (k ≡ n) × (w k ≡ o) ⊎ (k ≢ n) × (w k ≡ v k)

-- whether a is above b; no vector is above each vector
abbrev pub is_above : {V : Type 0} → (V → V → Ordering) → Option V → Option V → Bool
is_above order None None = false
is_above order None (Some y) = true
is_above order (Some x) None = false
is_above order (Some x) (Some y) = is_gt (order x y)

-- the lower of the two
abbrev pub lower_option : {V : Type 0} → (V → V → Ordering) → Option V → Option V → Option V
lower_option order a b = cond (is_above order a b) b a

-- the key of a bridge: the lower of what is stored and what is due, or none where they are the same
abbrev pub key_of : {V : Type 0} → (V → V → Ordering) → Option V → Option V → Option V
key_of order None due = due
key_of order (Some x) None = Some x
key_of order (Some x) (Some y) = cond (is_eq (order x y)) None (cond (is_gt (order x y)) (Some y) (Some x))

-- what the turn of a bridge with this key writes: the key, if it is lower than what is stored, and else none
abbrev pub turned_at : {V : Type 0} → (V → V → Ordering) → Option V → V → Option V
turned_at order None key = Some key
turned_at order (Some x) key = cond (is_gt (order x key)) (Some key) None

-- what a turn writes: what is due, if it is lower than what is stored, and else none
abbrev pub turned : {V : Type 0} → (V → V → Ordering) → Option V → Option V → Option V
turned order stored due = cond (is_above order stored due) due None

module _ {N L K B P V : Type 0} (m : Rules B P V) (t : Topology N L K B P) (v : N → Option V) where
  -- what is due at n: the best that the bridge can take, or nothing where there is no bridge
  abbrev pub IsDue : N → Option V → Type 0
  IsDue n None = (b : B) → HasBridge t n b → ⊥
  IsDue n (Some x) = (b : B) × HasBridge t n b × IsVectorOf m t v n b x

  -- another vector is due at n than is stored, and no bridge of which that is so has a lower key: the
  -- lower of what is stored and what is due
  pub record IsTurn (n : N) (due : Option V) : Type 0 where
    pub is_due : IsDue n due
    pub differs : v n ≢ due
    pub least : (k : N) (o : Option V) → IsDue k o → v k ≢ o → is_above m.order (lower_option m.order (v n) due) (lower_option m.order (v k) o) ≡ false

-- the number of settlings keeps the bound: it is at least that of the bridges whose vector differs and at most twice
-- that, and from no vectors at all just that
pub record WithinBounds {V : Type 0} (before after : ℕ → Option V) (settlings : ℕ) : Type 0 where
  pub changed : List ℕ
  pub ascending : IsStrictlyIncreasing changed
  pub exactly : (n : ℕ) → Contains changed n ↔ (before n ≢ after n)
  pub at_least : length changed ≤ settlings
  pub at_most : settlings ≤ 2 * length changed
  pub from_nothing : ((n : ℕ) → before n ≡ None) → settlings ≤ length changed

-- the number of settlings is that of the vectors
pub record CountsVectors {V : Type 0} (v : ℕ → Option V) (settlings : ℕ) : Type 0 where
  pub numbers : List ℕ
  pub ascending : IsStrictlyIncreasing numbers
  pub exactly : (n : ℕ) → Contains numbers n ↔ (v n ≢ None)
  pub counted : settlings ≡ length numbers
