-- The keys of bridges while a bridge's message is taken in: its vector was written at the bridge `written`, and some ports are done.
use Rattle.std.specs.Prelude.{◌≡◌, ◌≢◌, ◌⊎◌, ℕ, ◌^◌, ◌≤◌, List, Option, Some, None, Bool, true, false, not}
use Rattle.std.specs.declared.cmp.Ordering.{Ordering}
use Rattle.std.specs.Ordering.{is_gt}
use Rattle.std.specs.List.{Contains}
use Rattle.mst_vector.specs.Rules.{Rules}
use Rattle.mst_topology.specs.Topology.{TreePort, Topology, IsTopology, HasBridge, HasPort}
use Rattle.mst_topology.specs.Settled.{IsDesignated}
use Rattle.mst_topology.specs.Settling.{Offers}
use Rattle.mst_topology.specs.Repair.{is_above, key_of}
use Rattle.mst_topology.specs.Slots.{HasRoom}
use Rattle.mst_topology.specs.Seen.{Marks, IsSeen}
use Rattle.mst_topology.specs.Effects.{IsLanOf}
use Rattle.mst_progress.specs.Progress.{vectors_with}

-- whether there is a vector, and it is not above the other; no vector is above each vector
abbrev pub is_upto : {V : Type 0} → (V → V → Ordering) → Option V → Option V → Bool
is_upto order None b = false
is_upto order (Some x) b = not (is_above order (Some x) b)

-- the lower of a bridge's vector and what is due, from its key: the key, or where there is none the vector
abbrev pub lower_by : {V : Type 0} → Option V → Option V → Option V
lower_by None stored = stored
lower_by (Some k) stored = Some k

-- each port's bridge can be queued, and where of a LAN of the bridge that was written a designated port is noted, it is that by the
-- vectors before, where that bridge had the one that is stored
pub record IsTaking {B P V : Type 0} (m : Rules B P V) (t : Topology ℕ ℕ ℕ B P) (v : ℕ → Option V) (written : ℕ) (stored : Option V) (former : ℕ → Option (Option ℕ)) (keys : List (ℕ × Option V)) : Type 0 where
  pub topology : IsTopology m t
  pub rooms : (p : TreePort ℕ ℕ ℕ P) → HasPort t p → HasRoom keys p.bridge
  pub noted : (lan : ℕ) (o : Option ℕ) → IsLanOf t written lan → former lan ≡ Some o → IsDesignated m t (vectors_with v written stored) lan o
  pub cost : (x : V) → stored ≡ Some x → m.cost x ≤ 2 ^ 62

module _ {B P V : Type 0} (m : Rules B P V) (t : Topology ℕ ℕ ℕ B P) (u v : ℕ → Option V) where
  -- each port counts with what it is offered by v, or, if it isn't done, by u
  module _ (done : List (TreePort ℕ ℕ ℕ P)) (n : ℕ) where
    -- what the port counts with is of this kind
    abbrev pub CountsWith : (V → Type 0) → TreePort ℕ ℕ ℕ P → Type 0
    CountsWith Fits p = ((x : V) → Offers m t v p x → Fits x) ⊎ (Contains done p → ⊥) × ((x : V) → Offers m t u p x → Fits x)

    -- so is all that the bridge can take
    pub record TakesOnly (Fits : V → Type 0) : Type 0 where
      pub own : (b : B) → HasBridge t n b → Fits (m.bridge_vector b)
      pub ports : (p : TreePort ℕ ℕ ℕ P) → HasPort t p → p.bridge ≡ n → CountsWith Fits p

    -- the bridge can take this
    abbrev pub MayTake : B → V → Type 0
    MayTake b x = (x ≡ m.bridge_vector b) ⊎ ((p : TreePort ℕ ℕ ℕ P) × HasPort t p × (p.bridge ≡ n) × (Offers m t v p x ⊎ (Contains done p → ⊥) × Offers m t u p x))

    -- d is the best that the bridge can take, and it has the key for it; or it has its vector as the key, and all that it can take is above
    abbrev pub IsMixedKey : Option V → Type 0
    IsMixedKey k = ((d : V) × (b : B) × HasBridge t n b × MayTake b d × TakesOnly (λ x. is_gt (m.order d x) ≡ false) × (k ≡ key_of m.order (v n) (Some d)))
        ⊎ TakesOnly (λ x. is_above m.order (Some x) (v n) ≡ true) × (k ≡ v n)

    -- the bridge has such a key, if it is in the queue
    abbrev pub HasMixedKey : List (ℕ × Option V) → Type 0
    HasMixedKey queue = (k : Option V) → Contains queue (n, k) → IsMixedKey k

  -- the bridge's ports on the LANs that were seen are done
  abbrev pub AreDone : Marks → ℕ → List (TreePort ℕ ℕ ℕ P) → Type 0
  AreDone seen n done = (p : TreePort ℕ ℕ ℕ P) → HasPort t p → p.bridge ≡ n → IsSeen seen p.lan → Contains done p

  -- the ports `On` are done then too, beside those that were done; the key of the bridge that was written stays
  pub record TakesIn (written : ℕ) (seen : Marks) (old : List (ℕ × Option V)) (then : Marks) (new : List (ℕ × Option V)) (On : TreePort ℕ ℕ ℕ P → Type 0) : Type 0 where
    pub mixed : (n : ℕ) (done : List (TreePort ℕ ℕ ℕ P)) → n ≢ written → AreDone seen n done → HasMixedKey done n old
        → (more : List (TreePort ℕ ℕ ℕ P)) × HasMixedKey more n new × AreDone then n more × ((p : TreePort ℕ ℕ ℕ P) → HasPort t p → p.bridge ≡ n → (Contains done p ⊎ On p) → Contains more p)
    pub own : (k : Option V) → Contains new (written, k) → Contains old (written, k)
    pub rooms : (n : ℕ) → HasRoom old n → HasRoom new n
