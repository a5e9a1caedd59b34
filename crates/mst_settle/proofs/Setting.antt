-- The keys that are known, after a write and where room is made.
use Rattle.std.proofs.Common.{◌≡◌, ℕ, List, Option, Some, None, refl, sym, ◌∙◌, ap, subst, inl, inr, true, false, is_some}
use Rattle.std.specs.List.{Contains}
use Rattle.std.proofs.lemmas.List.Elements.{Contains-push_cases}
use Rattle.mst_topology.specs.Places.{in_map, flat, MakesRoom}
use Rattle.mst_topology.specs.Settling.{IsPut}
use Rattle.mst_topology.specs.Slots.{IsReserved, IsSetAt}
use Rattle.mst_topology.proofs.Search.{some_is}
use Rattle.mst_topology.proofs.Entries.{same_or_other}
use Rattle.mst_topology.proofs.Reserved.{reserved_stay}
use Rattle.mst_settle.specs.Known.{AreKnown}

pub flat_some : {A : Type 0} (o : Option (Option A)) (x : A) → flat o ≡ Some x → o ≡ Some (Some x)
flat_some None x e = cc
flat_some (Some o) x e = ap Some e

module _ {V : Type 0} (a b : List (ℕ × Option V)) (f : ℕ → Option (Option (Option V))) (known : AreKnown a f) (n : ℕ) where
  pub known_set : (key : Option V) (g : ℕ → Option (Option (Option V))) → IsSetAt a n key b → IsPut f n (Some key) g → AreKnown b g
  known_set key g set put = record {
    there = λ j k e. elim (put j) [
      | inl h ↦ (let same : key ≡ k = some_is key k (some_is (Some key) (Some k) (sym h.1 ∙ e)) in subst (λ z. Contains b (z, k)) (sym h.0) (subst (λ z. Contains b (n, z)) same set.has))
      | inr h ↦ set.stay j k h.0 (known.there j k (sym h.1 ∙ e))
    ];
    alone = λ j k l e c. elim (put j) [
      | inl h ↦ (let same : key ≡ k = some_is key k (some_is (Some key) (Some k) (sym h.1 ∙ e)) in set.here l (subst (λ z. Contains b (z, l)) h.0 c) ∙ same)
      | inr h ↦ known.alone j k l (sym h.1 ∙ e) (set.others j l h.0 c)
    ];
  }

  pub known_not_set : (key : Option V) → IsSetAt a n key b → is_some (f n) ≡ false → AreKnown b f
  known_not_set key set none = record {
    there = λ j k e. elim (same_or_other j n) [ inl h ↦ absurd (no j k h e) | inr h ↦ set.stay j k h (known.there j k e) ];
    alone = λ j k l e c. elim (same_or_other j n) [ inl h ↦ absurd (no j k h e) | inr h ↦ known.alone j k l e (set.others j l h c) ];
  }
    where
      no : (j : ℕ) (k : Option V) → j ≡ n → f j ≡ Some (Some k) → ⊥
      no j k h e = let there : is_some (f n) ≡ is_some (Some (Some k)) = ap (λ z. is_some (f z)) (sym h) ∙ ap is_some e in cc

-- room for more
pub known_back : {A : Type 0} (old new : List (ℕ × Option A)) (n : ℕ) → MakesRoom old new n None → (j : ℕ) (k : A) → in_map new j ≡ Some (Some k) → in_map old j ≡ Some (Some k)
known_back old new n made j k e = elim made [
  | inl h ↦ rw h.1 at e
  | inr h ↦ elim (h.1 j) [ inl p ↦ (let none = sym p.1 ∙ e in cc) | inr p ↦ sym p.1 ∙ e ]
]

pub known_reserved : {V : Type 0} (a b : List (ℕ × Option V)) (f g : ℕ → Option (Option (Option V))) (n : ℕ) → AreKnown a f → ((k : Option V) → f n ≡ Some (Some k) → ⊥) → ((j : ℕ) (k : Option V) → g j ≡ Some (Some k) → f j ≡ Some (Some k)) → IsReserved a n None b → AreKnown b g
known_reserved a b f g n known none back reserved = record {
  there = λ j k e. reserved_stay a n None b reserved j k (known.there j k (back j k e));
  alone = λ j k l e c. elim reserved [
    | inl h ↦ known.alone j k l (back j k e) (rw h.1 at c)
    | inr h ↦ elim (Contains-push_cases a (n, None) (j, l) (rw h at c)) [
      | inl there ↦ known.alone j k l (back j k e) there
      | inr is ↦ (let same : n ≡ j = ap (λ (d : ℕ × Option _). d.0) is in absurd (none k (ap f same ∙ back j k e)))
    ]
  ];
}

pub not_known : {A : Type 0} (f : ℕ → Option (Option A)) (n : ℕ) → is_some (flat (f n)) ≡ false → (k : A) → f n ≡ Some (Some k) → ⊥
not_known f n none k e = let there : is_some (flat (f n)) ≡ is_some (Some k) = ap (λ z. is_some (flat z)) e in cc

pub some_known : {A : Type 0} (o : Option (Option A)) → is_some (flat o) ≡ true → (k : A) × (o ≡ Some (Some k))
some_known None e = cc
some_known (Some None) e = cc
some_known (Some (Some k)) e = (k, refl)

pub known_less : {V : Type 0} (a : List (ℕ × Option V)) (f g : ℕ → Option (Option (Option V))) → AreKnown a f → ((j : ℕ) (k : Option V) → g j ≡ Some (Some k) → f j ≡ Some (Some k)) → AreKnown a g
known_less a f g known back = record { there = λ j k e. known.there j k (back j k e); alone = λ j k l e c. known.alone j k l (back j k e) c }
