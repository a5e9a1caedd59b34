-- The keys of a table, sorted, are those of its finite map.
use Rattle.std.proofs.Common.{◌≡◌, ◌+◌, Bool, true, false, cond, ◌||◌, ◌&&◌, not, List, [], ◌∷◌, ◌++◌, map, Option, Some, None, is_some, get_or, refl, sym, ap, subst, ◌∙◌, arith, true≢false}
use Rattle.std.specs.Prelude.{T}
use Rattle.std.specs.List.{IsDistinct, AllByRecursion, list_any, filter}
use Rattle.std.specs.List.Sorted.{IsPermutation, IsSorted, IsStrictlySortedBy}
use Rattle.std.specs.FinMap as fin
use Rattle.std.specs.FinMap.{FinMap, find, is_sorted, entries, entries_sorted, from_entries, contains_key-keys}
use Rattle.std.specs.FinMap.Entries.{below_all, same_entries}
use Rattle.std.specs.Ordering.{eq_by_cmp, is_eq, is_lt, ordering_reverse}
use Rattle.std.specs.declared.cmp.Ordering.{Ordering}
use Rattle.std.specs.declared.cmp.Ordering.TheVariants.{Less, Equal, Greater}
use Rattle.std.specs.Map.{keys_of}
use Rattle.std.proofs.lemmas.List.Sorted.{list_any-IsPermutation, IsPermutation-trans, IsPermutation-append_comm}
use Rattle.std.proofs.lemmas.Map.Keys.{IsDistinct-IsPermutation, IsDistinct-from_sorted, IsDistinct-cons, apart_from_distinct, sorted_from_all_adjacent}
use Rattle.std.proofs.lemmas.List.Kept.{IsStrictlySortedBy-filter}
use Rattle.mst_tables.proofs.Keyed.{IsKeyed, flipped, same_keys, get_removed}
use Rattle.mst_tables.specs.After.{change}
use Rattle.mst_tables.proofs.Changed.{both_hold, is_less, contains_changed}

module _ {K : Type 0} (R : K → K → Ordering) where
  -- the keys as entries with nothing
  abbrev marked : List K → List (K × Unit {0})
  marked ks = map (λ k. (k, tt)) ks

  all_below : (x : K) (ks : List K) → AllByRecursion (λ y. R x y ≡ Less) ks → T (below_all R x (marked ks))
  all_below x [] h = tt
  all_below x (k ∷ ks) h = subst (λ r. T (is_lt r && below_all R x (marked ks))) (sym h.0) (all_below x ks h.1)

  both : (a b : Bool) → T a → T b → T (a && b)
  both true b p q = q
  both false b p q = p

  sorted_marked : (ks : List K) → IsStrictlySortedBy R ks → T (is_sorted R (marked ks))
  unfolding IsStrictlySortedBy
  sorted_marked [] h = tt
  sorted_marked (k ∷ ks) h = both _ _ (all_below k ks h.0) (sorted_marked ks h.1)

  find_marked : (q : K) (ks : List K) → find R q (marked ks) ≡ cond (list_any (eq_by_cmp R q) ks) (Some tt) None
  find_marked q [] = refl
  find_marked q (k ∷ ks) = ap (cond (eq_by_cmp R q k) (Some tt)) (find_marked q ks) ∙ by (eq_by_cmp R q k) (list_any (eq_by_cmp R q) ks)
    where
      by : (a b : Bool) → cond {A = Option (Unit {0})} a (Some tt) (cond b (Some tt) None) ≡ cond (a || b) (Some tt) None
      by true b = refl
      by false b = refl

  unmarked : (ks : List K) → map (λ (e : K × Unit {0}). e.0) (marked ks) ≡ ks
  unmarked [] = refl
  unmarked (k ∷ ks) = ap (λ l. k ∷ l) (unmarked ks)

module _ {K X : Type 0} (R : K → K → Ordering) where
  below_keys : (x : K) (es : List (K × X)) → below_all R x (marked R (keys_of es)) ≡ below_all R x es
  below_keys x [] = refl
  below_keys x (e ∷ es) = ap (λ b. is_lt (R x e.0) && b) (below_keys x es)

  sorted_keys : (es : List (K × X)) → is_sorted R (marked R (keys_of es)) ≡ is_sorted R es
  sorted_keys [] = refl
  sorted_keys (e ∷ es) = λ i. below_keys e.0 es i && sorted_keys es i

  any_key : (q : K) (es : List (K × X)) → list_any (eq_by_cmp R q) (keys_of es) ≡ is_some (find R q es)
  any_key q [] = refl
  any_key q (e ∷ es) = by (eq_by_cmp R q e.0) (any_key q es)
    where
      by : (b : Bool) → list_any (eq_by_cmp R q) (keys_of es) ≡ is_some (find R q es) → (b || list_any (eq_by_cmp R q) (keys_of es)) ≡ is_some (cond b (Some e.1) (find R q es))
      by true h = refl
      by false h = h

module _ {K : Type 0} {E : K → K → Bool} {R : K → K → Ordering} (keyed : IsKeyed E R) where
  rises : (x y : K) → is_lt (R y x) ≡ false → E x y ≡ false → R x y ≡ Less
  rises x y up apart = by (R x y) refl
    where
      by : (r : Ordering) → R x y ≡ r → R x y ≡ Less
      by Less e = e
      by Equal e = absurd (true≢false (sym (keyed.ties x y ∙ ap is_eq e) ∙ apart))
      by Greater e = absurd (true≢false (sym (ap is_lt (keyed.total.antisymm y x ∙ ap ordering_reverse e)) ∙ up))

  swapped : (x y : K) → E x y ≡ E y x
  swapped x y = sym (flipped keyed y x) ∙ sym (keyed.ties y x)

  strictly : (ks : List K) → IsSorted R ks → IsDistinct E ks → IsStrictlySortedBy R ks
  unfolding IsStrictlySortedBy
  strictly [] up apart = tt
  strictly (k ∷ ks) up apart = sorted_from_all_adjacent keyed.total (k ∷ ks) k (λ i h.
      rises (get_or (k ∷ ks) i k) (get_or (k ∷ ks) (i + 1) k) (up i k (omega arith) h) (apart_from_distinct E (k ∷ ks) i (i + 1) k apart (omega arith) h))

  -- a test of the names that are left without one
  untied : (k q y : K) → E k y ≡ true → eq_by_cmp R q y ≡ E k q
  untied k q y e = ap (eq_by_cmp R q) (sym (same_keys keyed k y e)) ∙ flipped keyed q k

  tied : (k q y : K) → E k q ≡ true → eq_by_cmp R q y ≡ E k y
  tied k q y e = sym (keyed.ties q y) ∙ ap (λ x. E x y) (sym (same_keys keyed k q e))

  left_with : (k q y : K) (kept : List K) (rest : Bool) (t u : Bool) → E k y ≡ t → E k q ≡ u → list_any (eq_by_cmp R q) kept ≡ cond (E k q) false rest
      → list_any (eq_by_cmp R q) (cond (not t) (y ∷ kept) kept) ≡ cond u false (eq_by_cmp R q y || rest)
  left_with k q y kept rest true true e f h = h ∙ ap (λ b. cond b false rest) f
  left_with k q y kept rest true false e f h = h ∙ ap (λ b. cond b false rest) f ∙ ap (λ b. b || rest) (sym (untied k q y e ∙ f))
  left_with k q y kept rest false true e f h = ap (λ b. eq_by_cmp R q y || b) (h ∙ ap (λ b. cond b false rest) f) ∙ ap (λ b. b || false) (tied k q y f ∙ e)
  left_with k q y kept rest false false e f h = ap (λ b. eq_by_cmp R q y || b) (h ∙ ap (λ b. cond b false rest) f)

  none_left : (t : Bool) → false ≡ cond t false false
  none_left true = refl
  none_left false = refl

  left : (k q : K) (ks : List K) → list_any (eq_by_cmp R q) (filter (λ name. not (E k name)) ks) ≡ cond (E k q) false (list_any (eq_by_cmp R q) ks)
  left k q [] = none_left (E k q)
  left k q (y ∷ ks) = left_with k q y (filter (λ name. not (E k name)) ks) (list_any (eq_by_cmp R q) ks) (E k y) (E k q) refl refl (left k q ks)

module _ {K X : Type 0} {E : K → K → Bool} {R : K → K → Ordering} (keyed : IsKeyed E R) where
  below_less : (x : K) (es : List (K × X)) → T (below_all R x es) → AllByRecursion (λ y. R x y ≡ Less) (keys_of es)
  below_less x [] h = tt
  below_less x (e ∷ es) h = let b = both_hold _ _ h in (is_less _ b.0, below_less x es b.1)

  rising : (es : List (K × X)) → T (is_sorted R es) → IsStrictlySortedBy R (keys_of es)
  unfolding IsStrictlySortedBy
  rising [] h = tt
  rising (e ∷ es) h = let b = both_hold _ _ h in (below_less e.0 es b.0, rising es b.1)

  -- names that rise are the keys of a table, where each name is a key, and each key one of them
  keys_are : (m : FinMap R X) (ks : List K) → IsStrictlySortedBy R ks → ((q : K) → list_any (eq_by_cmp R q) ks ≡ fin.contains_key m q) → ks ≡ fin.keys m
  keys_are m ks up among =
      let same : marked R ks ≡ marked R (keys_of (entries m)) = same_entries R keyed.total keyed.same (marked R ks) (marked R (keys_of (entries m)))
      (sorted_marked R ks up) (subst T (sym (sorted_keys R (entries m))) (entries_sorted m))
      (λ q. find_marked R q ks
      ∙ ap (λ (b : Bool). cond b (Some tt) None) (among q ∙ contains_key-keys m q)
      ∙ sym (find_marked R q (keys_of (entries m)))) in
      sym (unmarked R ks) ∙ ap (map (λ (e : K × Unit {0}). e.0)) same ∙ unmarked R (keys_of (entries m))

  pub names_in_order : (rows : List (K × X)) (ks : List K) → IsDistinct E (keys_of rows) → IsPermutation (keys_of rows) ks → IsSorted R ks → ks ≡ fin.keys (from_entries {R = R} rows)
  names_in_order rows ks distinct moved up =
      keys_are (from_entries rows) ks (strictly keyed ks up (IsDistinct-IsPermutation E (swapped keyed) (keys_of rows) ks moved distinct))
      (λ q. sym (list_any-IsPermutation (eq_by_cmp R q) (keys_of rows) ks moved) ∙ any_key R q rows ∙ ap is_some (sym (fin.get-from_entries keyed.total rows q)))

  -- the keys of a table and one more, in order
  pub name_joins : (m : FinMap R X) (k : K) (v : X) (ks : List K) → fin.contains_key m k ≡ false → IsPermutation (fin.keys m ++ k ∷ []) ks → IsSorted R ks → ks ≡ fin.keys (fin.insert m k v)
  name_joins m k v ks absent moved up =
      let all : IsPermutation (k ∷ fin.keys m) ks = IsPermutation-trans (k ∷ fin.keys m) (fin.keys m ++ k ∷ []) ks (IsPermutation-append_comm (k ∷ []) (fin.keys m)) moved in
      keys_are (fin.insert m k v) ks (strictly keyed ks up (IsDistinct-IsPermutation E (swapped keyed) (k ∷ fin.keys m) ks all (IsDistinct-cons E k (fin.keys m) (apart (fin.keys m) (sym (contains_key-keys m k) ∙ absent)) distinct)))
      (λ q. sym (list_any-IsPermutation (eq_by_cmp R q) (k ∷ fin.keys m) ks all) ∙ ap (λ b. eq_by_cmp R q k || b) (sym (contains_key-keys m q))
      ∙ by (eq_by_cmp R q k) (fin.get m q) ∙ ap is_some (sym (fin.get-insert keyed.total m k v q)))
    where
      distinct : IsDistinct E (fin.keys m)
      distinct = subst (λ e. IsDistinct e (fin.keys m)) (λ i x y. sym (keyed.ties x y) i) (IsDistinct-from_sorted R (fin.keys m) (rising (entries m) (entries_sorted m)))

      none : (a b : Bool) → (a || b) ≡ false → (a ≡ false) × (b ≡ false)
      none true b h = absurd (true≢false h)
      none false b h = (refl, h)

      apart : (names : List K) → list_any (eq_by_cmp R k) names ≡ false → AllByRecursion (λ y. E k y ≡ false) names
      apart [] h = tt
      apart (y ∷ names) h = let both = none _ _ h in (keyed.ties k y ∙ both.0, apart names both.1)

      by : (a : Bool) (o : Option X) → (a || is_some o) ≡ is_some (cond a (Some v) o)
      by true o = refl
      by false o = refl

  -- and those that are left without one
  pub name_leaves : (m : FinMap R X) (k : K) → filter (λ name. not (E k name)) (fin.keys m) ≡ fin.keys (fin.remove m k)
  name_leaves m k =
      keys_are (fin.remove m k) (filter (λ name. not (E k name)) (fin.keys m)) (IsStrictlySortedBy-filter R (λ name. not (E k name)) (fin.keys m) (rising (entries m) (entries_sorted m)))
      (λ q. left keyed k q (fin.keys m) ∙ ap (cond (E k q) false) (sym (contains_key-keys m q)) ∙ by (E k q) (fin.get m q) ∙ ap is_some (sym (get_removed keyed m k q)))
    where
      by : (t : Bool) (o : Option X) → cond t false (is_some o) ≡ is_some (cond t None o)
      by true o = refl
      by false o = refl

  -- what is changed under a key leaves the keys
  pub names_stay : (m : FinMap R X) (k : K) (f : X → X) → fin.keys m ≡ fin.keys (change m k f)
  names_stay m k f = keys_are (change m k f) (fin.keys m) (rising (entries m) (entries_sorted m)) (λ q. sym (contains_key-keys m q) ∙ sym (contains_changed keyed m k f q))
