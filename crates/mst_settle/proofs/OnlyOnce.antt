-- What was seen in a round is right, so it needn't be looked at again.
use Rattle.std.proofs.Common.{◌≡◌, ℕ, List, Option, subst, inl, inr, ◌⊎◌}
use Rattle.mst_vector.specs.Rules.{Rules}
use Rattle.mst_topology.specs.Topology.{Topology}
use Rattle.mst_topology.specs.Seen.{Marks, IsSeen}
use Rattle.mst_topology.specs.Effects.{HasRightKey, LooksAnew, KeysAreRight, LansKeysAreRight, IsBridgeOn}

module _ {B P V : Type 0} (m : Rules B P V) (t : Topology ℕ ℕ ℕ B P) (v : ℕ → Option V) where
  -- one more bridge, or LAN, is seen
  pub keys_more : (seen more : Marks) (a b : List (ℕ × Option V)) (n : ℕ) → KeysAreRight m t v seen a → LooksAnew m t v a b (λ k. k ≡ n) → ((k : ℕ) → IsSeen more k → (k ≡ n) ⊎ IsSeen seen k) → KeysAreRight m t v more b
  keys_more seen more a b n right looked put k s = elim (put k s) [
    | inl e ↦ looked.found k e
    | inr r ↦ looked.right k (right k r)
  ]

  pub lans_more : (seen more : Marks) (a b : List (ℕ × Option V)) (lan : ℕ) → LansKeysAreRight m t v seen a → LooksAnew m t v a b (IsBridgeOn t lan) → ((k : ℕ) → IsSeen more k → (k ≡ lan) ⊎ IsSeen seen k) → LansKeysAreRight m t v more b
  lans_more seen more a b lan right looked put k s n on = elim (put k s) [
    | inl e ↦ looked.found n (subst (λ z. IsBridgeOn t z n) e on)
    | inr r ↦ looked.right n (right k r n on)
  ]

  -- what was seen stays as it is
  pub looks_seen : (queue : List (ℕ × Option V)) (On : ℕ → Type 0) → ((k : ℕ) → On k → HasRightKey m t v queue k) → LooksAnew m t v queue queue On
  looks_seen queue On right = record { right = λ k r. r; found = λ k f. right k f; rooms = λ k r. r }
