-- The index of a list by numbers.
use Rattle.std.proofs.Common.{◌≡◌, ℕ, ◌+◌, ◌<◌, List, [], ◌∷◌, ◌++◌, length, slice_index_or, Option, Some, None, IsSome, is_some, nat_eq, refl, sym, ◌∙◌, ap, inl, inr, arith, subst}
use Rattle.std.specs.Ordering.{nat_cmp}
use Rattle.std.specs.List.{Contains}
use Rattle.std.proofs.lemmas.List.{get_or_append_left, get_or_push, length_push, get_or_default, length-map, get_or-map}
use Rattle.std.proofs.lemmas.Cmp.{nat_eq_equiv}
use Rattle.std.proofs.lemmas.Map.Views.{Contains-from_lookup, IsSome-lookup_from_Contains, exact_unsigned_eq}
use Rattle.std.proofs.lemmas.List.Elements.{Contains-push_cases}
use Rattle.std.specs.Map.{keys_of, lookup}
use Rattle.std.specs.BTreeMap.{is_at}
use Rattle.std.proofs.lemmas.Map.Made.{IsSome-lookup_same_keys}
use Rattle.mst_topology.specs.Places.{IsIndex, in_map, option_at, flat, HasRoomAt, MakesRoom}
use Rattle.mst_topology.specs.Settling.{IsPut}
use Rattle.mst_topology.specs.Repair.{IsWritten}
use Rattle.mst_topology.proofs.Search.{some_is}

module _ {B : Type 0} (place_of more : ℕ → Option ℕ) (bridges : List (ℕ × B)) (old : IsIndex place_of bridges) (n : ℕ) (b : B) (puts : IsPut place_of n (length bridges) more) where
  pub index_more : IsIndex more (bridges ++ (n, b) ∷ [])
  index_more = record {
    found = λ k i e. elim (puts k) [
      | inl h ↦ (let here : length bridges ≡ i = some_is (length bridges) i (sym h.1 ∙ e) in rw (h.0, sym here) last)
      | inr h ↦ (let f = old.found k i (sym h.1 ∙ e) in let low : i < length bridges = f.1 in (f.0, longer i low, get_or_append_left bridges ((n, b) ∷ []) (k, f.0) i low ∙ f.2))
    ];
    missing = λ k c e h. elim (puts k) [
      | inl g ↦ (let f = sym g.1 ∙ e in let no : ⊥ = cc in no)
      | inr g ↦ elim (Contains-push_cases bridges (n, b) (k, c) h) [
        | inl there ↦ old.missing k c (sym g.1 ∙ e) there
        | inr is ↦ g.0 (sym (ap (λ (d : ℕ × B). d.0) is))
      ]
    ];
  }
    where
      long : length (bridges ++ (n, b) ∷ []) ≡ length bridges + 1
      long = length_push bridges (n, b)

      longer : (i : ℕ) → i < length bridges → i < length (bridges ++ (n, b) ∷ [])
      longer i l = let m = long in omega arith

      last : (c : B) × (length bridges < length (bridges ++ (n, b) ∷ [])) × (slice_index_or (bridges ++ (n, b) ∷ []) (length bridges) (n, c) ≡ (n, c))
      last = (b, (let l = long in omega arith), get_or_push bridges (n, b) (n, b) (length bridges) refl)

-- the element that the index leads to
pub index_at : {B : Type 0} (place_of : ℕ → Option ℕ) (bridges : List (ℕ × B)) → IsIndex place_of bridges → (n i : ℕ) → place_of n ≡ Some i → (r : ℕ × B) → r ≡ slice_index_or bridges i r → Contains bridges (n, r.1)
index_at {B} place_of bridges ok n i e r is =
    let f = ok.found n i e in
    let same : (n, f.0) ≡ r = sym f.2 ∙ get_or_default bridges i (n, f.0) r f.1 ∙ sym is in
    subst (λ (z : ℕ × B). Contains bridges (n, z.1)) same (i, f.1, f.2)

-- the numbers that the index has are those of the list
pub index_has : {B : Type 0} (place_of : ℕ → Option ℕ) (bridges : List (ℕ × B)) → IsIndex place_of bridges → (n : ℕ) → is_some (place_of n) ≡ is_some (lookup (nat_eq n) bridges)
index_has {B} place_of bridges ok n = go (place_of n) refl (lookup (nat_eq n) bridges) refl
  where
    go : (o : Option ℕ) → place_of n ≡ o → (w : Option B) → lookup (nat_eq n) bridges ≡ w → is_some o ≡ is_some w
    go None e None f = refl
    go None e (Some b) f = absurd (ok.missing n b e (Contains-from_lookup exact_unsigned_eq n b bridges f))
    go (Some i) e None f =
        let there = ok.found n i e in
        let key : Contains (keys_of bridges) n = (i, rw length-map there.1, get_or-map (λ (c : ℕ × B). c.0) bridges i (n, there.0) n there.1 ∙ ap (λ (c : ℕ × B). c.0) there.2) in
        let found = IsSome-lookup_from_Contains nat_eq_equiv n bridges key in
        let no : ⊥ = cc in absurd no
    go (Some i) e (Some b) f = refl

-- room made in a table of options leaves what the table has
pub room_leaves : {V : Type 0} (old new : List (ℕ × Option V)) (k : ℕ) → MakesRoom old new k None → (n : ℕ) → option_at new n ≡ option_at old n
room_leaves old new k h n = elim h [
  | inl u ↦ ap (λ es. option_at es n) u.1
  | inr u ↦ elim (u.1 n) [
    | inl e ↦ (let there : in_map old n ≡ None = ap (in_map old) e.0 ∙ u.0 in ap flat e.1 ∙ sym (ap flat there))
    | inr e ↦ ap flat e.1
  ]
]

some_there : {V : Type 0} (o : Option V) (x : V) → o ≡ Some x → IsSome o
some_there o x e = ap is_some e

-- there is room for the number then, and where there was
pub room_there : {V : Type 0} (old new : List (ℕ × V)) (k : ℕ) (x : V) → MakesRoom old new k x → HasRoomAt new k
room_there old new k x h = elim h [
  | inl u ↦ rw u.1 u.0
  | inr u ↦ elim (u.1 k) [
    | inl e ↦ some_there (in_map new k) x e.1
    | inr e ↦ absurd (e.0 refl)
  ]
]

pub room_stays : {V : Type 0} (old new : List (ℕ × V)) (k : ℕ) (x : V) → MakesRoom old new k x → (n : ℕ) → HasRoomAt old n → HasRoomAt new n
room_stays old new k x h n r = elim h [
  | inl u ↦ rw u.1 r
  | inr u ↦ elim (u.1 n) [
    | inl e ↦ some_there (in_map new n) x e.1
    | inr e ↦ rw e.1 r
  ]
]

-- a write of an option
pub write_puts : {V : Type 0} (old new : List (ℕ × Option V)) (k : ℕ) (x : V) → IsPut (in_map old) k (Some x) (in_map new) → IsPut (option_at old) k x (option_at new)
write_puts old new k x u n = elim (u n) [
  | inl e ↦ inl (e.0, ap flat e.1)
  | inr e ↦ inr (e.0, ap flat e.1)
]

pub write_written : {V : Type 0} (old new : List (ℕ × Option V)) (k : ℕ) (o : Option V) → IsPut (in_map old) k o (in_map new) → IsWritten (option_at old) k o (option_at new)
write_written old new k o u n = elim (u n) [
  | inl e ↦ inl (e.0, ap flat e.1)
  | inr e ↦ inr (e.0, ap flat e.1)
]

pub some_of : {A : Type 0} (o : Option A) → IsSome o → (x : A) × (o ≡ Some x)
some_of None e = cc
some_of (Some x) e = (x, refl)

-- tables with the same numbers have the same room
pub keys_room : {V : Type 0} (old new : List (ℕ × V)) → keys_of old ≡ keys_of new → (n : ℕ) → HasRoomAt old n → HasRoomAt new n
keys_room old new same n r = (IsSome-lookup_same_keys (is_at (nat_cmp n)) old new same).0 r
