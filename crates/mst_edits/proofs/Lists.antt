-- Lists of distinct names.
use Rattle.std.proofs.Common.{◌≡◌, ℕ, zero, suc, ◌+◌, ◌<◌, ◌≤◌, ◌⊎◌, inl, inr, Bool, true, false, cond, not, ◌||◌, List, [], ◌∷◌, ◌++◌, map, length, refl, sym, ap, ◌∙◌, arith, true≢false}
use Rattle.std.specs.Prelude.{T, ⊤, if◌then◌else◌}
use Rattle.std.specs.List.{list_any, filter, flat_map, range_with_len, AllByRecursion}
use Rattle.std.specs.FinMap as fin
use Rattle.std.specs.FinMap.{FinMap, is_sorted, entries, entries_sorted, contains_key-keys}
use Rattle.std.specs.FinMap.Entries.{below_all}
use Rattle.std.specs.Ordering.{is_eq}
use Rattle.std.specs.declared.cmp.Ordering.{Ordering}
use Rattle.std.proofs.lemmas.Bool.{cases_eq, or_from, or_left, or_right}
use Rattle.mst_net.proofs.tables_lemmas.Keyed.{IsKeyed, same_keys, flipped}
use Rattle.mst_net.proofs.tables_lemmas.Changed.{itself, both_hold, is_less}
use Rattle.mst_lang.specs.declared.line.Edit.{Edit}
use Rattle.mst_edits.specs.Edits.{joined}

-- ---- what holds of each element
module _ {A : Type 0} (P : A → Type 0) where
  pub all_append : (xs ys : List A) → AllByRecursion P xs → AllByRecursion P ys → AllByRecursion P (xs ++ ys)
  all_append [] ys h i = i
  all_append (x ∷ xs) ys h i = (h.0, all_append xs ys h.1 i)

  pub all_when : (b : Bool) (x : A) → (b ≡ true → P x) → AllByRecursion P (if b then x ∷ [] else [])
  all_when true x h = (h refl, tt)
  all_when false x h = tt

pub all_as : {A : Type 0} (P Q : A → Type 0) → ((x : A) → P x → Q x) → (xs : List A) → AllByRecursion P xs → AllByRecursion Q xs
all_as P Q f [] h = tt
all_as P Q f (x ∷ xs) h = (f x h.0, all_as P Q f xs h.1)

module _ {A B : Type 0} (P : B → Type 0) where
  pub all_map : (f : A → B) (xs : List A) → ((x : A) → P (f x)) → AllByRecursion P (map f xs)
  all_map f [] h = tt
  all_map f (x ∷ xs) h = (h x, all_map f xs h)

  pub all_map_of : (Q : A → Type 0) (f : A → B) (xs : List A) → AllByRecursion Q xs → ((x : A) → Q x → P (f x)) → AllByRecursion P (map f xs)
  all_map_of Q f [] q h = tt
  all_map_of Q f (x ∷ xs) q h = (h x q.0, all_map_of Q f xs q.1 h)

  pub all_flat : (f : A → List B) (xs : List A) → ((x : A) → AllByRecursion P (f x)) → AllByRecursion P (flat_map f xs)
  all_flat f [] h = tt
  all_flat f (x ∷ xs) h = all_append P (f x) (flat_map f xs) (h x) (all_flat f xs h)

  pub all_flat_of : (Q : A → Type 0) (f : A → List B) (xs : List A) → AllByRecursion Q xs → ((x : A) → Q x → AllByRecursion P (f x)) → AllByRecursion P (flat_map f xs)
  all_flat_of Q f [] q h = tt
  all_flat_of Q f (x ∷ xs) q h = all_append P (f x) (flat_map f xs) (h x q.0) (all_flat_of Q f xs q.1 h)

pub all_joined : (P : Edit → Type 0) (ess : List (List Edit)) → AllByRecursion (AllByRecursion P) ess → AllByRecursion P (joined ess)
all_joined P [] h = tt
all_joined P (es ∷ ess) h = all_append P es (joined ess) h.0 (all_joined P ess h.1)

pub all_filter : (p : ℕ → Bool) (xs : List ℕ) (P : ℕ → Type 0) → AllByRecursion P xs → AllByRecursion (λ x. P x × (p x ≡ true)) (filter p xs)
all_filter p [] P h = tt
all_filter p (x ∷ xs) P h = by (p x) refl (all_filter p xs P h.1)
  where
    by : (b : Bool) → p x ≡ b → AllByRecursion (λ x. P x × (p x ≡ true)) (filter p xs) → AllByRecursion (λ x. P x × (p x ≡ true)) (cond b (x ∷ filter p xs) (filter p xs))
    by true e rest = ((h.0, e), rest)
    by false e rest = rest

-- ---- names
module _ {K : Type 0} (E : K → K → Bool) where
  -- whether a name is in a list
  abbrev pub holds : K → List K → Bool
  holds q xs = list_any (λ p. E p q) xs

  -- no name stands twice
  abbrev pub Distinct : List K → Type 0
  Distinct [] = ⊤
  Distinct (x ∷ xs) = (holds x xs ≡ false) × Distinct xs

module _ {K : Type 0} {E : K → K → Bool} {R : K → K → Ordering} (keyed : IsKeyed E R) where
  pub holds_first : (x : K) (xs : List K) → holds E x (x ∷ xs) ≡ true
  holds_first x xs = or_left (E x x) (holds E x xs) (itself keyed x)

  pub holds_later : (q x : K) (xs : List K) → holds E q xs ≡ true → holds E q (x ∷ xs) ≡ true
  holds_later q x xs h = or_right (E x q) (holds E q xs) h

  -- what holds of each name of a list
  pub all_of : (P : K → Type 0) (xs : List K) → ((q : K) → holds E q xs ≡ true → P q) → AllByRecursion P xs
  all_of P [] h = tt
  all_of P (x ∷ xs) h = (h x (holds_first x xs), all_of P xs (λ q i. h q (holds_later q x xs i)))

  -- the names of a list that pass a test
  pub in_filter : (p : K → Bool) (xs : List K) (q : K) → holds E q (filter p xs) ≡ true → (holds E q xs ≡ true) × (p q ≡ true)
  in_filter p [] q h = absurd (true≢false (sym h))
  in_filter p (x ∷ xs) q h = by (p x) refl h (λ i. in_filter p xs q i)
    where
      at : (t : Bool) → E x q ≡ t → p x ≡ true → (t || holds E q (filter p xs)) ≡ true → (holds E q (filter p xs) ≡ true → (holds E q xs ≡ true) × (p q ≡ true)) → ((t || holds E q xs) ≡ true) × (p q ≡ true)
      at true e f h rest = (refl, ap p (sym (same_keys keyed x q e)) ∙ f)
      at false e f h rest = rest h

      by : (b : Bool) → p x ≡ b → holds E q (cond b (x ∷ filter p xs) (filter p xs)) ≡ true → (holds E q (filter p xs) ≡ true → (holds E q xs ≡ true) × (p q ≡ true)) → (holds E q (x ∷ xs) ≡ true) × (p q ≡ true)
      by true e h rest = at (E x q) refl e h rest
      by false e h rest = let r = rest h in (holds_later q x xs r.0, r.1)

  pub into_filter : (p : K → Bool) (xs : List K) (q : K) → holds E q xs ≡ true → p q ≡ true → holds E q (filter p xs) ≡ true
  into_filter p [] q h i = h
  into_filter p (x ∷ xs) q h i = by (p x) refl (E x q) refl h (λ j. into_filter p xs q j i)
    where
      by : (b : Bool) → p x ≡ b → (t : Bool) → E x q ≡ t → (t || holds E q xs) ≡ true → (holds E q xs ≡ true → holds E q (filter p xs) ≡ true) → holds E q (cond b (x ∷ filter p xs) (filter p xs)) ≡ true
      by true e true f h rest = or_left (E x q) _ f
      by true e false f h rest = or_right (E x q) _ (rest h)
      by false e true f h rest = absurd (true≢false (sym (ap p (same_keys keyed x q f) ∙ i) ∙ e))
      by false e false f h rest = rest h

  not_in_filter : (p : K → Bool) (xs : List K) (q : K) → holds E q xs ≡ false → holds E q (filter p xs) ≡ false
  not_in_filter p xs q h = by (holds E q (filter p xs)) refl
    where
      by : (t : Bool) → holds E q (filter p xs) ≡ t → t ≡ false
      by true e = absurd (true≢false (sym ((in_filter p xs q e).0) ∙ h))
      by false e = refl

  pub distinct_filter : (p : K → Bool) (xs : List K) → Distinct E xs → Distinct E (filter p xs)
  distinct_filter p [] d = tt
  distinct_filter p (x ∷ xs) d = by (p x) (distinct_filter p xs d.1)
    where
      by : (b : Bool) → Distinct E (filter p xs) → Distinct E (cond b (x ∷ filter p xs) (filter p xs))
      by true rest = (not_in_filter p xs x d.0, rest)
      by false rest = rest

  -- ---- distinct names among others are no more than they
  dropped : K → List K → List K
  dropped x ys = filter (λ y. not (E x y)) ys

  dropped_fewer : (x : K) (ys : List K) → holds E x ys ≡ true → length (filter (λ y. not (E x y)) ys) < length ys
  dropped_fewer x [] h = absurd (true≢false (sym h))
  dropped_fewer x (y ∷ ys) h = by (E x y) refl (E y x) refl h (dropped_least x ys) (λ i. dropped_fewer x ys i)
    where
      dropped_least : (x : K) (ys : List K) → length (filter (λ y. not (E x y)) ys) ≤ length ys
      dropped_least x [] = omega arith
      dropped_least x (y ∷ ys) = at (E x y) (dropped_least x ys)
        where
          at : (t : Bool) → length (filter (λ y. not (E x y)) ys) ≤ length ys → length (cond (not t) (y ∷ filter (λ y. not (E x y)) ys) (filter (λ y. not (E x y)) ys)) ≤ length (y ∷ ys)
          at true rest = omega arith
          at false rest = omega arith

      by : (s : Bool) → E x y ≡ s → (t : Bool) → E y x ≡ t → (t || holds E x ys) ≡ true → length (filter (λ y. not (E x y)) ys) ≤ length ys → (holds E x ys ≡ true → length (filter (λ y. not (E x y)) ys) < length ys)
          → length (cond (not s) (y ∷ filter (λ y. not (E x y)) ys) (filter (λ y. not (E x y)) ys)) < length (y ∷ ys)
      by true e t f h least rest = omega arith
      by false e true f h least rest = absurd (true≢false (sym (ap (λ k. E k y) (sym (same_keys keyed y x f)) ∙ itself keyed y) ∙ e))
      by false e false f h least rest = let fewer = rest h in omega arith

  pub pigeons : (xs ys : List K) → Distinct E xs → ((q : K) → holds E q xs ≡ true → holds E q ys ≡ true) → length xs ≤ length ys
  pigeons [] ys d h = omega arith
  pigeons (x ∷ xs) ys d h =
      let rest = pigeons xs (filter (λ y. not (E x y)) ys) d.1 (λ q i. into_filter (λ y. not (E x y)) ys q (h q (holds_later q x xs i)) (other q i)) in
      let fewer = dropped_fewer x ys (h x (holds_first x xs)) in
      omega arith
    where
      other : (q : K) → holds E q xs ≡ true → not (E x q) ≡ true
      other q i = by (E x q) refl
        where
          by : (t : Bool) → E x q ≡ t → not t ≡ true
          by true e = absurd (true≢false (sym (ap (λ k. holds E k xs) (same_keys keyed x q e) ∙ i) ∙ d.0))
          by false e = refl

module _ {K X : Type 0} {E : K → K → Bool} {R : K → K → Ordering} (keyed : IsKeyed E R) where
  above_first : (x : K) (es : List (K × X)) → T (below_all R x es) → holds E x (map (λ e. e.0) es) ≡ false
  above_first x [] h = refl
  above_first x (e ∷ es) h =
      let both = both_hold _ _ h in
      or_from (E e.0 x) _ (sym (flipped keyed x e.0) ∙ ap is_eq (is_less _ both.0)) (above_first x es both.1)

  sorted_distinct : (es : List (K × X)) → T (is_sorted R es) → Distinct E (map (λ e. e.0) es)
  sorted_distinct [] h = tt
  sorted_distinct (e ∷ es) h = let both = both_hold _ _ h in (above_first e.0 es both.0, sorted_distinct es both.1)

  pub keys_distinct : (m : FinMap R X) → Distinct E (fin.keys m)
  keys_distinct m = sorted_distinct (entries m) (entries_sorted m)

  pub keys_hold : (m : FinMap R X) (q : K) → holds E q (fin.keys m) ≡ fin.contains_key m q
  keys_hold m q = (λ i. list_any (λ k. sym (flipped keyed q k) i) (fin.keys m)) ∙ sym (contains_key-keys m q)

-- ---- what some element has
-- a number among those that pass a test
pub any_passing : (p test : ℕ → Bool) (k a n : ℕ) → a ≤ k → k < a + n → test k ≡ true → p k ≡ true → list_any p (filter test (range_with_len a n)) ≡ true
any_passing p test k a zero low high t h = absurd (omega arith)
any_passing p test k a (suc n) low high t h = by (cases_eq k a) (test a) refl (λ other. any_passing p test k (a + 1) n (omega (arith, other)) (omega arith) t h)
  where
    by : (k ≡ a) ⊎ (k ≡ a → ⊥) → (b : Bool) → test a ≡ b → ((k ≡ a → ⊥) → list_any p (filter test (range_with_len (a + 1) n)) ≡ true) → list_any p (cond b (a ∷ filter test (range_with_len (a + 1) n)) (filter test (range_with_len (a + 1) n))) ≡ true
    by (inl same) true e rest = or_left (p a) _ (ap p (sym same) ∙ h)
    by (inl same) false e rest = absurd (true≢false (sym t ∙ ap test same ∙ e))
    by (inr other) true e rest = or_right (p a) _ (rest other)
    by (inr other) false e rest = rest other

-- what some list has
pub any_flat : {A B : Type 0} (p : B → Bool) (f : A → List B) (q : A → Bool) (xs : List A) → ((x : A) → q x ≡ true → list_any p (f x) ≡ true) → list_any q xs ≡ true → list_any p (flat_map f xs) ≡ true
any_flat p f q [] h i = i
any_flat p f q (x ∷ xs) h i = any_append p (f x) (flat_map f xs) ∙ by (q x) refl i (λ j. any_flat p f q xs h j)
  where
    any_append : {B : Type 0} (p : B → Bool) (xs ys : List B) → list_any p (xs ++ ys) ≡ (list_any p xs || list_any p ys)
    any_append p [] ys = refl
    any_append p (x ∷ xs) ys = by (p x) (any_append p xs ys)
      where
        by : (t : Bool) → list_any p (xs ++ ys) ≡ (list_any p xs || list_any p ys) → (t || list_any p (xs ++ ys)) ≡ ((t || list_any p xs) || list_any p ys)
        by true h = refl
        by false h = h

    by : (t : Bool) → q x ≡ t → (t || list_any q xs) ≡ true → (list_any q xs ≡ true → list_any p (flat_map f xs) ≡ true) → (list_any p (f x) || list_any p (flat_map f xs)) ≡ true
    by true e i rest = or_left (list_any p (f x)) _ (h x e)
    by false e i rest = or_right (list_any p (f x)) _ (rest i)
