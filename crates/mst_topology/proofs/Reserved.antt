-- Room that is made at a number, and the rooms that were there.
use Rattle.std.proofs.Common.{◌≡◌, ◌≢◌, ℕ, ◌+◌, ◌<◌, List, [], ◌∷◌, refl, sym, ◌∙◌, ap, subst, inl, inr, ◌⊎◌, arith}
use Rattle.std.specs.List.{Contains}
use Rattle.std.proofs.lemmas.List.Elements.{Contains-append_left, Contains-push, Contains-push_cases}
use Rattle.mst_topology.specs.Slots.{HasRoom, IsReserved, IsSetAt}
use Rattle.mst_topology.proofs.Entries.{same_or_other}
use Rattle.mst_topology.proofs.Lowest.{before_here_after}

module _ {T : Type 0} (old : List (ℕ × T)) (n : ℕ) (x : T) (new : List (ℕ × T)) where
  pub set_back : IsSetAt old n x new → HasRoom old n → (k : ℕ) → HasRoom new k → HasRoom old k
  set_back set room k r = elim (same_or_other k n) [
    | inl e ↦ subst (λ z. HasRoom old z) (sym e) room
    | inr other ↦ (r.0, set.others k r.0 other r.1)
  ]

  pub reserved_stay : IsReserved old n x new → (k : ℕ) (y : T) → Contains old (k, y) → Contains new (k, y)
  reserved_stay h k y c = elim h [
    | inl e ↦ rw e.1 c
    | inr e ↦ rw e (Contains-append_left old ((n, x) ∷ []) (k, y) c)
  ]

  pub reserved_rooms : IsReserved old n x new → (k : ℕ) → HasRoom old k → HasRoom new k
  reserved_rooms h k r = (r.0, reserved_stay h k r.0 r.1)

  pub reserved_here : IsReserved old n x new → HasRoom new n
  reserved_here h = elim h [
    | inl e ↦ rw e.1 e.0
    | inr e ↦ rw e (x, Contains-push old (n, x))
  ]

  pub reserved_cases : IsReserved old n x new → (k : ℕ) (y : T) → Contains new (k, y) → Contains old (k, y) ⊎ (k ≡ n) × (y ≡ x)
  reserved_cases h k y c = elim h [
    | inl e ↦ inl (rw e.1 at c)
    | inr e ↦ elim (Contains-push_cases old (n, x) (k, y) (rw e at c)) [
      | inl o ↦ inl o
      | inr s ↦ inr (ap (λ (z : ℕ × T). z.0) (sym s), ap (λ (z : ℕ × T). z.1) (sym s))
    ]
  ]

pub below_other : (k i : ℕ) → k < i + 1 → k ≢ i → k < i
below_other k i l other = elim (before_here_after k i) [
  | inl low ↦ low
  | inr r ↦ elim r [ inl e ↦ absurd (other e) | inr high ↦ absurd (omega arith) ]
]
