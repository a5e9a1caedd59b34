-- The entries of a table, as room is made and values are set.
use Rattle.std.proofs.Common.{◌≡◌, ◌≢◌, ℕ, ◌<◌, List, [], ◌∷◌, ◌++◌, length, slice_set, Option, Some, None, sym, ◌∙◌, ap, subst, inl, inr, ◌⊎◌, arith, length-set, get_or-set_same, get_or-set_other}
use Rattle.mst_topology.specs.Settling.{IsPut}
use Rattle.mst_topology.specs.Chains.{IsAt}
use Rattle.mst_topology.specs.Slots.{IsSlots, HasRoom, IsSetAt}
use Rattle.mst_topology.proofs.Search.{some_is}
use Rattle.mst_topology.proofs.Chains.{at_longer, at_end, at_cases, one_there}

pub same_or_other : (j k : ℕ) → (j ≡ k) ⊎ (j ≢ k)
same_or_other j k = grind arith

module _ {A : Type 0} (xs : List A) (i : ℕ) (y : A) (l : i < length xs) where
  pub at_set : IsAt (slice_set xs i y) i y
  at_set = let n = length-set xs i y in (omega arith, get_or-set_same xs i y y l)

  pub at_set_other : (k : ℕ) (x : A) → k ≢ i → IsAt xs k x → IsAt (slice_set xs i y) k x
  at_set_other k x other h = let n = length-set xs i y in let m = h.0 in (omega arith, get_or-set_other xs i k y x other ∙ h.1)

  pub at_set_cases : (k : ℕ) (x : A) → IsAt (slice_set xs i y) k x → (k ≡ i) × (x ≡ y) ⊎ (k ≢ i) × IsAt xs k x
  at_set_cases k x h = elim (same_or_other k i) [
    | inl e ↦ inl (e, one_there (slice_set xs i y) i x y (subst (λ z. IsAt (slice_set xs i y) z x) e h) at_set)
    | inr other ↦ inr (other, (let n = length-set xs i y in let m = h.0 in omega arith, sym (get_or-set_other xs i k y x other) ∙ h.1))
  ]

module _ {T : Type 0} (place_of : ℕ → Option ℕ) (entries : List (ℕ × T)) (ok : IsSlots place_of entries) where
  abbrev number : ℕ × T → ℕ
  number e = e.0

  abbrev value : ℕ × T → T
  value e = e.1

  -- room for one more
  pub slots_more : (more : ℕ → Option ℕ) (n : ℕ) (x : T) → place_of n ≡ None → IsPut place_of n (length entries) more → IsSlots more (entries ++ (n, x) ∷ [])
  slots_more more n x new put = record {
    found = λ j i e. elim (put j) [
      | inl h ↦ (let here : length entries ≡ i = some_is (length entries) i (sym h.1 ∙ e) in
          (x, subst (λ z. IsAt (entries ++ (n, x) ∷ []) z (j, x)) here (subst (λ z. IsAt (entries ++ (n, x) ∷ []) (length entries) (z, x)) (sym h.0) (at_end entries (n, x)))))
      | inr h ↦ (let f = ok.found j i (sym h.1 ∙ e) in (f.0, at_longer entries (n, x) i (j, f.0) f.1))
    ];
    back = λ j i y at. elim (at_cases entries (n, x) i (j, y) at) [
      | inl a ↦ (let there = ok.back j i y a in elim (put j) [
        | inl h ↦ (let none : place_of j ≡ None = ap place_of h.0 ∙ new in let no : ⊥ = cc in absurd no)
        | inr h ↦ h.1 ∙ there
      ])
      | inr a ↦ (let same : j ≡ n = ap number a.1 in elim (put j) [
        | inl h ↦ h.1 ∙ ap Some (sym a.0)
        | inr h ↦ absurd (h.0 same)
      ])
    ];
  }

  pub room_found : (n i : ℕ) → place_of n ≡ Some i → HasRoom entries n
  room_found n i e = let f = ok.found n i e in (f.0, (i, f.1.0, f.1.1))

  pub room_place : (n : ℕ) → HasRoom entries n → place_of n ≢ None
  room_place n r e = let there = ok.back n r.1.0 r.0 (r.1.1, r.1.2) in cc

  module _ (n i : ℕ) (at : place_of n ≡ Some i) (new : T) where
    low : i < length entries
    low = (ok.found n i at).1.0

    pub slots_set : IsSlots place_of (slice_set entries i (n, new))
    slots_set = record {
      found = λ j k e. elim (same_or_other k i) [
        | inl s ↦ (let f = ok.found j k e in
            let same : j ≡ n = ap number (one_there entries i (j, f.0) (n, (ok.found n i at).0) (subst (λ z. IsAt entries z (j, f.0)) s f.1) (ok.found n i at).1) in
            (new, subst (λ z. IsAt (slice_set entries i (n, new)) z (j, new)) (sym s) (subst (λ z. IsAt (slice_set entries i (n, new)) i (z, new)) (sym same) (at_set entries i (n, new) low))))
        | inr other ↦ (let f = ok.found j k e in (f.0, at_set_other entries i (n, new) low k (j, f.0) other f.1))
      ];
      back = λ j k o h. elim (at_set_cases entries i (n, new) low k (j, o) h) [
        | inl s ↦ ap place_of (ap number s.1) ∙ at ∙ ap Some (sym s.0)
        | inr s ↦ ok.back j k o s.1
      ];
    }

    pub is_set : IsSetAt entries n new (slice_set entries i (n, new))
    is_set = record {
      here = λ x c. elim (at_set_cases entries i (n, new) low c.0 (n, x) (c.1, c.2)) [
        | inl s ↦ ap value s.1
        | inr s ↦ (let there = ok.back n c.0 x s.1 in absurd (s.0 (some_is c.0 i (sym there ∙ at))))
      ];
      others = λ j x other c. elim (at_set_cases entries i (n, new) low c.0 (j, x) (c.1, c.2)) [
        | inl s ↦ absurd (other (ap number s.1))
        | inr s ↦ (c.0, s.1.0, s.1.1)
      ];
      stay = λ j x other c.
          let apart : c.0 ≢ i = λ s. other (ap number (one_there entries i (j, x) (n, (ok.found n i at).0) (subst (λ z. IsAt entries z (j, x)) s (c.1, c.2)) (ok.found n i at).1)) in
          let f = at_set_other entries i (n, new) low c.0 (j, x) apart (c.1, c.2) in (c.0, f.0, f.1);
      has = let f = at_set entries i (n, new) low in (i, f.0, f.1);
    }
