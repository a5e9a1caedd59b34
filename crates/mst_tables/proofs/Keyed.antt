-- Finite maps that are made of the entries of a table by keys.
use Rattle.std.proofs.Common.{◌≡◌, ◌+◌, Bool, true, false, cond, ◌||◌, ◌⊎◌, inl, inr, List, [], ◌∷◌, length, Option, Some, None, is_some, refl, sym, ap, ◌∙◌, arith, true≢false}
use Rattle.std.specs.List.{IsDistinct, AllByRecursion, list_any}
use Rattle.std.specs.FinMap as fin
use Rattle.std.specs.FinMap.{FinMap, IsAntisymmetric, find, put, get-from_entries, get-insert, get-remove, get-entries, same_map, entries-insert, len-insert, len-empty, entries, from_entries}
use Rattle.std.specs.FinMap.Entries.{by_order}
use Rattle.std.specs.Cmp.{IsTotalOrder, eq_by_cmp_equiv}
use Rattle.std.specs.Ordering.{eq_by_cmp, is_eq}
use Rattle.std.specs.declared.cmp.Ordering.{Ordering}
use Rattle.std.specs.declared.cmp.Ordering.TheVariants.{Less, Equal, Greater}
use Rattle.std.specs.Map.{lookup, keys_of, values_of}
use Rattle.mst_tables.specs.After.{keep}
use Rattle.mst_tables.proofs.Somes.{some_is, no_some}

-- the order tells keys apart, and the test of keys says when they tie
pub record IsKeyed {K : Type 0} (E : K → K → Bool) (R : K → K → Ordering) : Type 0 where
  pub total : IsTotalOrder R
  pub same : IsAntisymmetric R
  pub ties : (x y : K) → E x y ≡ eq_by_cmp R x y

or_swap : (a b c : Bool) → (a || (b || c)) ≡ (b || (a || c))
or_swap true true c = refl
or_swap true false c = refl
or_swap false b c = refl

or_true : (a : Bool) → (a || true) ≡ true
or_true true = refl
or_true false = refl

or_first : (a b c : Bool) → a ≡ c → (c || b) ≡ b → (a || b) ≡ b
or_first a b c e h = ap (λ x. x || b) e ∙ h

equal_tied : (r : Ordering) → is_eq r ≡ true → r ≡ Equal
equal_tied Less e = absurd (true≢false (sym e))
equal_tied Equal e = refl
equal_tied Greater e = absurd (true≢false (sym e))

module _ {K : Type 0} {E : K → K → Bool} {R : K → K → Ordering} (keyed : IsKeyed E R) where
  -- the test is symmetric
  pub flipped : (q k : K) → eq_by_cmp R q k ≡ E k q
  flipped q k = (eq_by_cmp_equiv keyed.total).symm q k ∙ sym (keyed.ties k q)

  pub same_keys : (k l : K) → E k l ≡ true → k ≡ l
  same_keys k l e = keyed.same k l (equal_tied (R k l) (sym (keyed.ties k l) ∙ e))

module _ {K X : Type 0} {E : K → K → Bool} {R : K → K → Ordering} (keyed : IsKeyed E R) where
  find-lookup : (es : List (K × X)) (q : K) → find R q es ≡ lookup (E q) es
  find-lookup [] q = refl
  find-lookup (e ∷ es) q = λ i. cond (sym (keyed.ties q e.0) i) (Some e.1) (find-lookup es q i)

  -- what the map of the entries has at a key
  pub get_keyed : (es : List (K × X)) (q : K) → fin.get (from_entries {R = R} es) q ≡ lookup (E q) es
  get_keyed es q = get-from_entries keyed.total es q ∙ find-lookup es q

  pub contains_keyed : (es : List (K × X)) (q : K) → fin.contains_key (from_entries {R = R} es) q ≡ is_some (lookup (E q) es)
  contains_keyed es q = ap is_some (get_keyed es q)

  pub get_inserted : (m : FinMap R X) (k : K) (v : X) (q : K) → fin.get (fin.insert m k v) q ≡ cond (E k q) (Some v) (fin.get m q)
  get_inserted m k v q = get-insert keyed.total m k v q ∙ ap (λ b. cond b (Some v) (fin.get m q)) (flipped keyed q k)

  pub get_removed : (m : FinMap R X) (k q : K) → fin.get (fin.remove m k) q ≡ cond (E k q) None (fin.get m q)
  get_removed m k q = get-remove keyed.total m k q ∙ ap (λ b. cond b None (fin.get m q)) (flipped keyed q k)

  -- entries that change at one key make a map that changes there
  pub set_keyed : (es fs : List (K × X)) (k : K) (v : X) → ((q : K) → lookup (E q) fs ≡ cond (E k q) (Some v) (lookup (E q) es)) → from_entries {R = R} fs ≡ fin.insert (from_entries es) k v
  set_keyed es fs k v changed = same_map keyed.total keyed.same _ _ (λ q.
      get_keyed fs q ∙ changed q ∙ ap (cond (E k q) (Some v)) (sym (get_keyed es q)) ∙ sym (get_inserted (from_entries es) k v q))

  pub removed_keyed : (es fs : List (K × X)) (k : K) → ((q : K) → lookup (E q) fs ≡ cond (E k q) None (lookup (E q) es)) → from_entries {R = R} fs ≡ fin.remove (from_entries es) k
  removed_keyed es fs k changed = same_map keyed.total keyed.same _ _ (λ q.
      get_keyed fs q ∙ changed q ∙ ap (cond (E k q) None) (sym (get_keyed es q))
      ∙ sym (get_removed (from_entries es) k q))

  absent_key : (k : K) (es : List (K × X)) → AllByRecursion (λ y. E k y ≡ false) (keys_of es) → lookup (E k) es ≡ None
  absent_key k [] all = refl
  absent_key k (e ∷ es) all = ap (λ b. cond b (Some e.1) (lookup (E k) es)) all.0 ∙ absent_key k es all.1

  pub len_keyed : (es : List (K × X)) → IsDistinct E (keys_of es) → fin.len (from_entries {R = R} es) ≡ length es
  unfolding IsDistinct
  len_keyed [] d = len-empty R X
  len_keyed (e ∷ es) d =
      let none = ap is_some (get_keyed es e.0 ∙ absent_key e.0 es d.0) in
      let m : FinMap R X = from_entries es in
      let grown = len-insert keyed.total m e.0 e.1 ∙ ap (λ b. cond b (fin.len m) (fin.len m + 1)) none in
      omega (arith, grown, len_keyed es d.1)

  -- after an insertion a key has what was inserted, or what it had
  pub after_insert : (m : FinMap R X) (k : K) (v : X) (q : K) (x : X) → fin.get (fin.insert m k v) q ≡ Some x → ((k ≡ q) × (v ≡ x)) ⊎ (fin.get m q ≡ Some x)
  after_insert m k v q x h = by (E k q) refl (sym (get_inserted m k v q) ∙ h)
    where
      by : (t : Bool) → E k q ≡ t → cond t (Some v) (fin.get m q) ≡ Some x → ((k ≡ q) × (v ≡ x)) ⊎ (fin.get m q ≡ Some x)
      by true e h = inl (same_keys keyed k q e, some_is v x h)
      by false e h = inr h

  -- and after a removal what it had
  pub after_remove : (m : FinMap R X) (k q : K) (x : X) → fin.get (fin.remove m k) q ≡ Some x → fin.get m q ≡ Some x
  after_remove m k q x h = by (E k q) (sym (get_removed m k q) ∙ h)
    where
      by : (t : Bool) → cond t None (fin.get m q) ≡ Some x → fin.get m q ≡ Some x
      by true h = absurd (no_some x h)
      by false h = h

  pub still_there : (m : FinMap R X) (k : K) (v : X) (q : K) → fin.contains_key m q ≡ true → fin.contains_key (fin.insert m k v) q ≡ true
  still_there m k v q there = ap is_some (get_inserted m k v q) ∙ by (E k q)
    where
      by : (t : Bool) → is_some (cond t (Some v) (fin.get m q)) ≡ true
      by true = refl
      by false = there

  pub len_added : (m : FinMap R X) (k : K) (v : X) → fin.contains_key m k ≡ false → fin.len (fin.insert m k v) ≡ fin.len m + 1
  len_added m k v none = len-insert keyed.total m k v ∙ ap (λ b. cond b (fin.len m) (fin.len m + 1)) none

  pub len_set : (m : FinMap R X) (k : K) (v : X) → fin.contains_key m k ≡ true → fin.len (fin.insert m k v) ≡ fin.len m
  len_set m k v there = len-insert keyed.total m k v ∙ ap (λ b. cond b (fin.len m) (fin.len m + 1)) there

  any_put : (P : X → Bool) (k : K) (v : X) (es : List (K × X)) → find R k es ≡ None → list_any P (values_of (put R k v es)) ≡ (P v || list_any P (values_of es))
  any_put P k v [] none = refl
  any_put P k v (e ∷ es) none =
      elim (R k e.0) as (λ r. cond (is_eq r) (Some e.1) (find R k es) ≡ None
      → list_any P (values_of (by_order r ((k, v) ∷ e ∷ es) ((e.0, v) ∷ es) (e ∷ put R k v es))) ≡ (P v || (P e.1 || list_any P (values_of es)))) [
        | Less ↦ λ _. refl
        | Equal ↦ λ n. absurd (no_some e.1 (sym n))
        | Greater ↦ λ n. ap (λ b. P e.1 || b) (any_put P k v es n) ∙ or_swap (P e.1) (P v) _
      ] none

  any_found : (P : X → Bool) (k : K) (x : X) (es : List (K × X)) → find R k es ≡ Some x → P x ≡ true → list_any P (values_of es) ≡ true
  any_found P k x [] there passes = absurd (no_some x there)
  any_found P k x (e ∷ es) there passes =
      elim (eq_by_cmp R k e.0) as (λ b. cond b (Some e.1) (find R k es) ≡ Some x → (P e.1 || list_any P (values_of es)) ≡ true) [
        | true ↦ λ h. ap (λ b. b || list_any P (values_of es)) (ap P (some_is e.1 x h) ∙ passes)
        | false ↦ λ h. ap (λ b. P e.1 || b) (any_found P k x es h passes) ∙ or_true (P e.1)
      ] there

  or_found : (P : X → Bool) (k : K) (x : X) (es : List (K × X)) → find R k es ≡ Some x → (P x || list_any P (values_of es)) ≡ list_any P (values_of es)
  or_found P k x es there = by (P x) refl
    where
      by : (b : Bool) → P x ≡ b → (b || list_any P (values_of es)) ≡ list_any P (values_of es)
      by true e = sym (any_found P k x es there e)
      by false e = refl

  any_put_same : (P : X → Bool) (k : K) (v x : X) (es : List (K × X)) → find R k es ≡ Some x → P v ≡ P x → list_any P (values_of (put R k v es)) ≡ list_any P (values_of es)
  any_put_same P k v x [] there same = absurd (no_some x there)
  any_put_same P k v x (e ∷ es) there same =
      elim (R k e.0) as (λ r. R k e.0 ≡ r → cond (is_eq r) (Some e.1) (find R k es) ≡ Some x
      → list_any P (values_of (by_order r ((k, v) ∷ e ∷ es) ((e.0, v) ∷ es) (e ∷ put R k v es))) ≡ (P e.1 || list_any P (values_of es))) [
        | Less ↦ λ t h. or_first (P v) (P e.1 || list_any P (values_of es)) (P x) same (or_found P k x (e ∷ es) there)
        | Equal ↦ λ t h. ap (λ b. b || list_any P (values_of es)) (same ∙ ap P (sym (some_is e.1 x h)))
        | Greater ↦ λ t h. ap (λ b. P e.1 || b) (any_put_same P k v x es h same)
      ] refl there

  -- a test of some value, after an entry with a new key
  pub any_added : (P : X → Bool) (m : FinMap R X) (k : K) (v : X) → fin.contains_key m k ≡ false → list_any P (fin.values (fin.insert m k v)) ≡ (P v || list_any P (fin.values m))
  any_added P m k v none =
      ap (λ l. list_any P (values_of l)) (entries-insert keyed.total m k v) ∙ any_put P k v (entries m) (by (find R k (entries m)) (sym (ap is_some (get-entries m k)) ∙ none))
    where
      by : (o : Option X) → is_some o ≡ false → o ≡ None
      by None e = refl
      by (Some x) e = absurd (true≢false e)

  -- and after another value that passes alike
  pub any_set : (P : X → Bool) (m : FinMap R X) (k : K) (v x : X) → fin.get m k ≡ Some x → P v ≡ P x → list_any P (fin.values (fin.insert m k v)) ≡ list_any P (fin.values m)
  any_set P m k v x there same =
      ap (λ l. list_any P (values_of l)) (entries-insert keyed.total m k v) ∙ any_put_same P k v x (entries m) (sym (get-entries m k) ∙ there) same

  pub any_value : (P : X → Bool) (m : FinMap R X) (k : K) (x : X) → fin.get m k ≡ Some x → P x ≡ true → list_any P (fin.values m) ≡ true
  any_value P m k x there passes = any_found P k x (entries m) (sym (get-entries m k) ∙ there) passes

-- a table with a value under a key, or with none
module _ {K X : Type 0} {E : K → K → Bool} {R : K → K → Ordering} (keyed : IsKeyed E R) where
  pub keep_keyed : (es fs : List (K × X)) (k : K) (o : Option X) → ((q : K) → lookup (E q) fs ≡ cond (E k q) o (lookup (E q) es))
      → from_entries {R = R} fs ≡ keep (from_entries {R = R} es) k o
  keep_keyed es fs k None h = removed_keyed keyed es fs k h
  keep_keyed es fs k (Some x) h = set_keyed keyed es fs k x h

  pub get_kept : (m : FinMap R X) (k : K) (o : Option X) (q : K) → fin.get (keep m k o) q ≡ cond (E k q) o (fin.get m q)
  get_kept m k None q = get_removed keyed m k q
  get_kept m k (Some x) q = get_inserted keyed m k x q

  pub after_keep : (m : FinMap R X) (k : K) (o : Option X) (q : K) (x : X) → fin.get (keep m k o) q ≡ Some x → ((k ≡ q) × (o ≡ Some x)) ⊎ (fin.get m q ≡ Some x)
  after_keep m k None q x h = inr (after_remove keyed m k q x h)
  after_keep m k (Some v) q x h = elim (after_insert keyed m k v q x h) [ inl p ↦ inl (p.0, ap Some p.1) | inr p ↦ inr p ]
