-- The least keys of blocks, and the least of all.
use Rattle.std.proofs.Common.{◌≡◌, ◌≢◌, ℕ, ◌+◌, ◌*◌, ◌/◌, ◌<◌, ◌≤◌, List, [], ◌∷◌, ◌++◌, length, slice_set, Option, Some, None, Bool, true, false, cond, refl, sym, ◌∙◌, ap, subst, inl, inr, ◌⊎◌, arith, length-set}
use Rattle.std.specs.declared.cmp.Ordering.{Ordering}
use Rattle.std.specs.Ordering.{is_gt}
use Rattle.std.specs.Cmp.{IsTotalOrder}
use Rattle.std.specs.List.{Contains}
use Rattle.std.proofs.lemmas.Cmp.{tied_itself, upto}
use Rattle.std.proofs.lemmas.List.{length_push}
use Rattle.mst_topology.specs.Best.{lesser_of, lesser_best_of, IsBestOf}
use Rattle.mst_topology.specs.Chains.{IsAt}
use Rattle.mst_topology.specs.Slots.{IsReserved, IsLeastKey}
use Rattle.mst_topology.specs.Keys.{IsKeyIn, IsOtherKeyIn, IsElsewhere, AreBests}
use Rattle.mst_topology.proofs.Orders.{not_less, less_is_upto}
use Rattle.mst_topology.proofs.Steps.{below_or_here}
use Rattle.mst_topology.proofs.Search.{some_is}
use Rattle.mst_topology.proofs.Chains.{one_there, at_cases, at_longer}
use Rattle.mst_topology.proofs.Entries.{same_or_other, at_set, at_set_other, at_set_cases}

-- the value with its place
abbrev pub placed : {V : Type 0} → ℕ → Option V → Option (ℕ × V)
placed i None = None
placed i (Some x) = Some (i, x)

module _ {V : Type 0} (order : V → V → Ordering) (o : IsTotalOrder order) where
  above : (x y : V) → is_gt (order x y) ≡ true → is_gt (order y x) ≡ false
  above x y g = not_less o x y (λ l. let f = less_is_upto o x y l in cc)

  -- the best of two kinds of values is the lower of the bests
  module _ (Has Then All : ℕ → V → Type 0) (n : ℕ) (left : (k : ℕ) (x : V) → Has k x → All k x) (right : (k : ℕ) (x : V) → Then k x → All k x) (split : (k : ℕ) (y : V) → k < n → All k y → Has k y ⊎ Then k y) where
    pub best_merged : (a b : Option (ℕ × V)) → IsBestOf order Has n a → IsBestOf order Then n b → IsBestOf order All n (lesser_best_of order a b)
    best_merged None None h i = λ k y l has. elim (split k y l has) [ inl f ↦ h k y l f | inr f ↦ i k y l f ]
    best_merged (Some a) None h i = (left a.0 a.1 h.0, λ k y l has. elim (split k y l has) [ inl f ↦ h.1 k y l f | inr f ↦ absurd (i k y l f) ])
    best_merged None (Some b) h i = (right b.0 b.1 i.0, λ k y l has. elim (split k y l has) [ inl f ↦ absurd (h k y l f) | inr f ↦ i.1 k y l f ])
    best_merged (Some a) (Some b) h i = go (is_gt (order a.1 b.1)) refl
      where
        go : (g : Bool) → is_gt (order a.1 b.1) ≡ g → IsBestOf order All n (cond g (Some (b.0, b.1)) (Some a))
        go true g = (right b.0 b.1 i.0, λ k y l has. elim (split k y l has) [ inl f ↦ upto o b.1 a.1 y (above a.1 b.1 g) (h.1 k y l f) | inr f ↦ i.1 k y l f ])
        go false g = (left a.0 a.1 h.0, λ k y l has. elim (split k y l has) [ inl f ↦ h.1 k y l f | inr f ↦ upto o a.1 b.1 y g (i.1 k y l f) ])

    pub best_with : (a : Option (ℕ × V)) (i : ℕ) (v : Option V) → IsBestOf order Has n a → IsBestOf order Then n (placed i v) → IsBestOf order All n (lesser_of order a i v)
    best_with None i None h j = best_merged None None h j
    best_with (Some a) i None h j = best_merged (Some a) None h j
    best_with a i (Some x) h j = best_merged a (Some (i, x)) h j

  -- the same up to another place, or of values that are the same
  pub best_same : (Has All : ℕ → V → Type 0) (n j : ℕ) (b : Option (ℕ × V)) → ((k : ℕ) (x : V) → Has k x → All k x) → ((k : ℕ) (y : V) → k < j → All k y → (k < n) × Has k y) → IsBestOf order Has n b → IsBestOf order All j b
  best_same Has All n j None more back h = λ k y l has. let f = back k y l has in h k y f.0 f.1
  best_same Has All n j (Some b) more back h = (more b.0 b.1 h.0, λ k y l has. let f = back k y l has in h.1 k y f.0 f.1)

  module _ (entries : List (ℕ × Option V)) (e : ℕ × Option V) (i : ℕ) (at : IsAt entries i e) where
    -- the key at a place is one, if there is any
    pub key_there : (x : V) → e.1 ≡ Some x → IsAt entries i (e.0, Some x)
    key_there x is = subst (λ (o : Option V). IsAt entries i (e.0, o)) is at

    pub key_is : (n : ℕ) (y : V) → IsAt entries i (n, Some y) → e.1 ≡ Some y
    key_is n y h = ap (λ (z : ℕ × Option V). z.1) (one_there entries i e (n, Some y) at h)

    -- it is the best of its place
    pub best_here : (b : ℕ) → b * 32 ≤ i → i < b * 32 + 32 → (n : ℕ) (v : Option V) → e.1 ≡ v → IsBestOf order (λ k x. (k ≡ i) × IsKeyIn entries b k x) n (placed i v)
    best_here b first end n None is = λ k y l h. let no = sym is ∙ key_is h.1.number y (subst (λ z. IsAt entries z (h.1.number, Some y)) h.0 h.1.at) in cc
    best_here b first end n (Some x) is = (
      (refl, record { first = first; end = end; number = e.0; at = key_there x is }),
      λ k y l h.
          let same : x ≡ y = some_is x y (sym is ∙ key_is h.1.number y (subst (λ z. IsAt entries z (h.1.number, Some y)) h.0 h.1.at)) in
          ap is_gt (ap (order x) (sym same) ∙ tied_itself o x),
    )

    -- the key that was written at a place of the block counts beside the best of the others
    pub best_written : (b : ℕ) → b * 32 ≤ i → i < b * 32 + 32 → (n : ℕ) (former : Option (ℕ × V)) → IsBestOf order (IsOtherKeyIn entries b i) n former → IsBestOf order (IsKeyIn entries b) n (lesser_of order former i e.1)
    best_written b first end n former h = best_with (IsOtherKeyIn entries b i) (λ k x. (k ≡ i) × IsKeyIn entries b k x) (IsKeyIn entries b) n (λ k x f. f.1) (λ k x f. f.1)
        (λ k y l has. elim (same_or_other k i) [ inl s ↦ inr (s, has) | inr other ↦ inl (other, has) ]) former i e.1 h (best_here b first end n e.1 refl)

  -- after a write at place i
  module _ (entries : List (ℕ × Option V)) (bests : List (Option (ℕ × V))) (ok : AreBests order entries bests) (i : ℕ) (new : ℕ × Option V) (low : i < length entries) where
    abbrev now : List (ℕ × Option V)
    now = slice_set entries i new

    forth : (b k : ℕ) (x : V) → k ≢ i → IsKeyIn entries b k x → IsKeyIn now b k x
    forth b k x other h = record { first = h.first; end = h.end; number = h.number; at = at_set_other entries i new low k (h.number, Some x) other h.at }

    back : (b k : ℕ) (x : V) → k ≢ i → IsKeyIn now b k x → IsKeyIn entries b k x
    back b k x other h = record { first = h.first; end = h.end; number = h.number; at = elim (at_set_cases entries i new low k (h.number, Some x) h.at) [ inl s ↦ absurd (other s.0) | inr s ↦ s.1 ] }

    size : length now ≡ length entries
    size = length-set entries i new

    shorter : (k : ℕ) → k < length now → k < length entries
    shorter k l = let s = size in omega arith

    pub others_best : (b : ℕ) (former : Option (ℕ × V)) → IsAt bests b former → IsElsewhere i former → IsBestOf order (IsOtherKeyIn now b i) (length now) former
    others_best b None at apart = λ k y l h. ok.right b None at k y (shorter k l) (back b k y h.0 h.1)
    others_best b (Some f) at apart = let r = ok.right b (Some f) at in ((apart, forth b f.0 f.1 apart r.0), λ k y l h. r.1 k y (shorter k l) (back b k y h.0 h.1))

    pub bests_set : (block : ℕ) → block * 32 ≤ i → i < block * 32 + 32 → (best : Option (ℕ × V)) → IsBestOf order (IsKeyIn now block) (length now) best → (there : block < length bests) → AreBests order now (slice_set bests block best)
    bests_set block first end best right there = record {
      covers = let s = size in let t = length-set bests block best in let c = ok.covers in omega arith;
      right = λ b o at. elim (at_set_cases bests block best there b o at) [
        | inl s ↦ subst (λ z. IsBestOf order (IsKeyIn now z) (length now) o) (sym s.0) (subst (λ z. IsBestOf order (IsKeyIn now block) (length now) z) (sym s.1) right)
        | inr s ↦ best_same (IsKeyIn entries b) (IsKeyIn now b) (length entries) (length now) o
            (λ k x h. forth b k x (apart b k x s.0 h.first h.end) h) (λ k y l h. (shorter k l, back b k y (apart b k y s.0 h.first h.end) h)) (ok.right b o s.1)
      ];
    }
      where
        apart : (b k : ℕ) (x : V) → b ≢ block → b * 32 ≤ k → k < b * 32 + 32 → k ≢ i
        apart b k x other f e s = other (one_block b block i (subst (λ z. b * 32 ≤ z) s f) (subst (λ z. z < b * 32 + 32) s e) first end)
          where
            one_block : (b c i : ℕ) → b * 32 ≤ i → i < b * 32 + 32 → c * 32 ≤ i → i < c * 32 + 32 → b ≡ c
            one_block b c i f e g h = omega arith

  -- with room for one more
  pub bests_reserved : (entries : List (ℕ × Option V)) (bests : List (Option (ℕ × V))) → AreBests order entries bests → (n : ℕ) (new : List (ℕ × Option V)) → IsReserved entries n None new
      → (length new ≤ length bests * 32 + 1) × ((b : ℕ) (o : Option (ℕ × V)) → IsAt bests b o → IsBestOf order (IsKeyIn new b) (length new) o) × ((b k : ℕ) (x : V) → IsKeyIn new b k x → k < length bests * 32)
  bests_reserved entries bests ok n new reserved = elim reserved [
    | inl same ↦ (
      (let c = ok.covers in let e : length new ≡ length entries = ap length same.1 in omega arith),
      λ b o at. subst (λ z. IsBestOf order (IsKeyIn z b) (length z) o) (sym same.1) (ok.right b o at),
      λ b k x h. let low = h.at.0 in let c = ok.covers in let e : length new ≡ length entries = ap length same.1 in omega arith,
    )
    | inr more ↦ (
      (let c = ok.covers in let e : length new ≡ length (entries ++ (n, None) ∷ []) = ap length more in let l = length_push entries (n, None) in omega arith),
      λ b o at. subst (λ z. IsBestOf order (IsKeyIn z b) (length z) o) (sym more) (best_same (IsKeyIn entries b) (IsKeyIn (entries ++ (n, None) ∷ []) b) (length entries) (length (entries ++ (n, None) ∷ [])) o (forth b) (λ k y l h. back b k y h) (ok.right b o at)),
      λ b k x h. let f = back b k x (subst (λ z. IsKeyIn z b k x) more h) in let low = f.0 in let c = ok.covers in omega arith,
    )
  ]
    where
      forth : (b k : ℕ) (x : V) → IsKeyIn entries b k x → IsKeyIn (entries ++ (n, None) ∷ []) b k x
      forth b k x h = record { first = h.first; end = h.end; number = h.number; at = at_longer entries (n, None) k (h.number, Some x) h.at }

      back : (b k : ℕ) (x : V) → IsKeyIn (entries ++ (n, None) ∷ []) b k x → (k < length entries) × IsKeyIn entries b k x
      back b k x h = elim (at_cases entries (n, None) k (h.number, Some x) h.at) [
        | inl a ↦ (a.0, record { first = h.first; end = h.end; number = h.number; at = a })
        | inr a ↦ (let no : Some x ≡ None = ap (λ (z : ℕ × Option V). z.1) a.1 in cc)
      ]

  pub bests_kept : (entries : List (ℕ × Option V)) (bests : List (Option (ℕ × V))) → AreBests order entries bests → (n : ℕ) (new : List (ℕ × Option V)) → IsReserved entries n None new → length new ≤ length bests * 32 → AreBests order new bests
  bests_kept entries bests ok n new reserved few = record { covers = few; right = (bests_reserved entries bests ok n new reserved).1 }

  -- and with one more block
  pub bests_more : (entries : List (ℕ × Option V)) (bests : List (Option (ℕ × V))) → AreBests order entries bests → (n : ℕ) (new : List (ℕ × Option V)) → IsReserved entries n None new → AreBests order new (bests ++ None ∷ [])
  bests_more entries bests ok n new reserved = let r = bests_reserved entries bests ok n new reserved in record {
    covers = let l = length_push bests None in let c = r.0 in omega arith;
    right = λ b o at. elim (at_cases bests None b o at) [
      | inl a ↦ r.1 b o a
      | inr a ↦ subst (λ z. IsBestOf order (IsKeyIn new b) (length new) z) (sym a.1) (λ k y l h. let f = h.first in let e = a.0 in let low = r.2 b k y h in absurd (omega arith))
    ];
  }

-- the place k is in the block that it is divided to
pub block_first : (k : ℕ) → k / 32 * 32 ≤ k
block_first k = omega arith

pub block_end : (k : ℕ) → k < k / 32 * 32 + 32
block_end k = omega arith

pub block_there : (k n m : ℕ) → k < n → n ≤ m * 32 → k / 32 < m
block_there k n m l c = omega arith

-- the key stands in a block before this one
abbrev pub IsKeyBefore : {V : Type 0} → List (ℕ × Option V) → ℕ → ℕ → V → Type 0
IsKeyBefore entries block k x = (b : ℕ) × (b < block) × IsKeyIn entries b k x

module _ {V : Type 0} (order : V → V → Ordering) (o : IsTotalOrder order) (entries : List (ℕ × Option V)) (bests : List (Option (ℕ × V))) (ok : AreBests order entries bests) where
  -- with the best of one more block
  pub least_more : (block : ℕ) (best least : Option (ℕ × V)) → IsAt bests block best → IsBestOf order (IsKeyBefore entries block) (length entries) least → IsBestOf order (IsKeyBefore entries (block + 1)) (length entries) (lesser_best_of order least best)
  least_more block best least at h = best_merged order o (IsKeyBefore entries block) (IsKeyIn entries block) (IsKeyBefore entries (block + 1)) (length entries)
      (λ k x f. let l = f.1 in (f.0, omega arith, f.2)) (λ k x f. (block, omega arith, f)) (λ k y l f. split k y f) least best h (ok.right block best at)
    where
      split : (k : ℕ) (y : V) → IsKeyBefore entries (block + 1) k y → IsKeyBefore entries block k y ⊎ IsKeyIn entries block k y
      split k y f = elim (below_or_here f.0 block f.1) [
        | inl below ↦ inl (f.0, below, f.2)
        | inr here ↦ inr (subst (λ z. IsKeyIn entries z k y) here f.2)
      ]

  key_before : (n : ℕ) (x : V) (c : Contains entries (n, Some x)) → IsKeyBefore entries (length bests) c.0 x
  key_before n x c = (c.0 / 32, block_there c.0 (length entries) (length bests) c.1 ok.covers, record { first = block_first c.0; end = block_end c.0; number = n; at = (c.1, c.2) })

  pub no_key : IsBestOf order (IsKeyBefore entries (length bests)) (length entries) None → (n : ℕ) (x : V) → Contains entries (n, Some x) → ⊥
  no_key h n x c = h c.0 x c.1 (key_before n x c)

  pub least_key : (i : ℕ) (x : V) → IsBestOf order (IsKeyBefore entries (length bests)) (length entries) (Some (i, x)) → (e : ℕ × Option V) → IsAt entries i e → IsLeastKey order entries e.0 x
  least_key i x h e at = record {
    has = let same : e ≡ (h.0.2.number, Some x) = one_there entries i e (h.0.2.number, Some x) at h.0.2.at in
        let there = h.0.2.at in
        subst (λ (z : ℕ × Option V). Contains entries (z.0, Some x)) (sym same) (i, there.0, there.1);
    upto = λ j y c. h.1 c.0 y c.1 (key_before j y c);
  }

  -- the place of the least key is one
  pub least_place : (i : ℕ) (x : V) → IsBestOf order (IsKeyBefore entries (length bests)) (length entries) (Some (i, x)) → i < length entries
  least_place i x h = h.0.2.at.0

-- where a number's entry was written is its place
pub written_place : {V : Type 0} (old new : List (ℕ × Option V)) (n i place : ℕ) (x y value : Option V) → IsAt old i (n, x) → new ≡ slice_set old i (n, value)
    → ((i j n : ℕ) (x y : Option V) → IsAt new i (n, x) → IsAt new j (n, y) → i ≡ j) → IsAt new place (n, y) → (place < length old) × (new ≡ slice_set old place (n, value))
written_place old new n i place x y value at is once there =
    let here : IsAt new i (n, value) = subst (λ z. IsAt z i (n, value)) (sym is) (at_set old i (n, value) at.0) in
    let same : i ≡ place = once i place n value y here there in
    subst (λ z. (z < length old) × (new ≡ slice_set old z (n, value))) same (at.0, is)
