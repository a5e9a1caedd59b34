-- Tables of which one entry is changed or taken away.
use Rattle.std.proofs.Common.{◌≡◌, ◌≤◌, ◌-◌, Bool, true, false, not, cond, ◌||◌, ◌&&◌, List, [], ◌∷◌, Option, Some, None, is_some, refl, sym, ap, subst, ◌∙◌, arith, true≢false}
use Rattle.std.specs.Prelude.{T}
use Rattle.std.specs.Option.{option_map, option_map_or}
use Rattle.std.specs.List.{list_any}
use Rattle.std.specs.FinMap as fin
use Rattle.std.specs.FinMap.{FinMap, find, is_sorted, get-entries, get-retain_keys, entries, entries_sorted, len-remove}
use Rattle.std.specs.FinMap.Entries.{below_all}
use Rattle.std.specs.Ordering.{eq_by_cmp, is_eq, is_lt, ordering_reverse}
use Rattle.std.specs.Cmp.{tied_itself}
use Rattle.std.specs.declared.cmp.Ordering.{Ordering}
use Rattle.std.specs.declared.cmp.Ordering.TheVariants.{Less, Equal, Greater}
use Rattle.std.specs.Map.{values_of}
use Rattle.mst_tables.specs.After.{change}
use Rattle.mst_tables.proofs.Somes.{some_is, no_some}
use Rattle.mst_tables.proofs.Keyed.{IsKeyed, same_keys, get_inserted, get_removed, len_set, any_set}

mapped_some : {X : Type 0} (f : X → X) (o : Option X) (x : X) → option_map f o ≡ Some x → (y : X) × (o ≡ Some y) × (f y ≡ x)
mapped_some f None x h = absurd (no_some x h)
mapped_some f (Some y) x h = (y, refl, some_is (f y) x h)

mapped_is : {X : Type 0} (f : X → X) (o : Option X) → is_some (option_map f o) ≡ is_some o
mapped_is f None = refl
mapped_is f (Some y) = refl

pub both_hold : (a b : Bool) → T (a && b) → T a × T b
both_hold true true h = (tt, tt)
both_hold true false h = absurd h
both_hold false b h = absurd h

pub is_less : (o : Ordering) → T (is_lt o) → o ≡ Less
is_less Less h = refl
is_less Equal h = absurd h
is_less Greater h = absurd h

module _ {K : Type 0} {E : K → K → Bool} {R : K → K → Ordering} (keyed : IsKeyed E R) where
  -- a key is itself
  pub itself : (k : K) → E k k ≡ true
  itself k = keyed.ties k k ∙ ap is_eq (tied_itself keyed.total k)

module _ {K X : Type 0} {E : K → K → Bool} {R : K → K → Ordering} (keyed : IsKeyed E R) where
  -- what stands under a key of the changed table
  pub get_changed : (m : FinMap R X) (k : K) (f : X → X) (q : K) → fin.get (change m k f) q ≡ cond (E k q) (option_map f (fin.get m q)) (fin.get m q)
  get_changed m k f q = by (fin.get m k) refl
    where
      same : (o : Option X) (t : Bool) → fin.get m k ≡ o → E k q ≡ t → t ≡ true → fin.get m q ≡ o
      same o t there e is = ap (fin.get m) (sym (same_keys keyed k q (e ∙ is))) ∙ there

      none : (t : Bool) → E k q ≡ t → fin.get m k ≡ None → fin.get m q ≡ cond t (option_map f (fin.get m q)) (fin.get m q)
      none true e there = let here = same None true there e refl in here ∙ sym (ap (option_map f) here)
      none false e there = refl

      some : (x : X) (t : Bool) → E k q ≡ t → fin.get m k ≡ Some x → cond t (Some (f x)) (fin.get m q) ≡ cond t (option_map f (fin.get m q)) (fin.get m q)
      some x true e there = sym (ap (option_map f) (same (Some x) true there e refl))
      some x false e there = refl

      by : (o : Option X) → fin.get m k ≡ o → fin.get (option_map_or (λ x. fin.insert m k (f x)) o m) q ≡ cond (E k q) (option_map f (fin.get m q)) (fin.get m q)
      by None e = none (E k q) refl e
      by (Some x) e = get_inserted keyed m k (f x) q ∙ some x (E k q) refl e

  pub contains_changed : (m : FinMap R X) (k : K) (f : X → X) (q : K) → fin.contains_key (change m k f) q ≡ fin.contains_key m q
  contains_changed m k f q = ap is_some (get_changed m k f q) ∙ by (E k q)
    where
      by : (t : Bool) → is_some (cond t (option_map f (fin.get m q)) (fin.get m q)) ≡ is_some (fin.get m q)
      by true = mapped_is f (fin.get m q)
      by false = refl

  pub len_changed : (m : FinMap R X) (k : K) (f : X → X) → fin.len (change m k f) ≡ fin.len m
  len_changed m k f = by (fin.get m k) refl
    where
      by : (o : Option X) → fin.get m k ≡ o → fin.len (option_map_or (λ x. fin.insert m k (f x)) o m) ≡ fin.len m
      by None e = refl
      by (Some x) e = len_set keyed m k (f x) (ap is_some e)

  -- what is made of something that is there
  pub changed_is : (m : FinMap R X) (k : K) (f : X → X) (x : X) → fin.get m k ≡ Some x → change m k f ≡ fin.insert m k (f x)
  changed_is m k f x there = ap (λ o. option_map_or (λ x. fin.insert m k (f x)) o m) there

  -- whatever stands in it stood there before, or is made of what did
  pub changed_from : (P : X → X → Type 0) → ((y : X) → P y y) → (m : FinMap R X) (k : K) (f : X → X) → ((y : X) → fin.get m k ≡ Some y → P (f y) y) → (q : K) (x : X) → fin.get (change m k f) q ≡ Some x
      → (y : X) × (fin.get m q ≡ Some y) × P x y
  changed_from P itself m k f made q x h = by (E k q) refl (sym (get_changed m k f q) ∙ h)
    where
      by : (t : Bool) → E k q ≡ t → cond t (option_map f (fin.get m q)) (fin.get m q) ≡ Some x → (y : X) × (fin.get m q ≡ Some y) × P x y
      by true e h = let y = mapped_some f (fin.get m q) x h in (y.0, y.1, subst (λ z. P z y.0) y.2 (made y.0 (ap (fin.get m) (same_keys keyed k q e) ∙ y.1)))
      by false e h = (x, h, itself x)

  -- a test of some value, where what stands under the key passes alike
  pub any_changed : (P : X → Bool) (m : FinMap R X) (k : K) (f : X → X) → ((x : X) → P (f x) ≡ P x) → list_any P (fin.values (change m k f)) ≡ list_any P (fin.values m)
  any_changed P m k f alike = by (fin.get m k) refl
    where
      by : (o : Option X) → fin.get m k ≡ o → list_any P (fin.values (option_map_or (λ x. fin.insert m k (f x)) o m)) ≡ list_any P (fin.values m)
      by None e = refl
      by (Some x) e = any_set keyed P m k (f x) x e (alike x)

  -- ---- what is left where a key is taken away
  pub left_of : (m : FinMap R X) (k q : K) (x : X) → fin.get (fin.remove m k) q ≡ Some x → (E k q ≡ false) × (fin.get m q ≡ Some x)
  left_of m k q x h = by (E k q) (sym (get_removed keyed m k q) ∙ h)
    where
      by : (t : Bool) → cond t None (fin.get m q) ≡ Some x → (t ≡ false) × (fin.get m q ≡ Some x)
      by true h = absurd (no_some x h)
      by false h = (refl, h)

  pub other_left : (m : FinMap R X) (k q : K) → E k q ≡ false → fin.get (fin.remove m k) q ≡ fin.get m q
  other_left m k q other = get_removed keyed m k q ∙ ap (λ b. cond b None (fin.get m q)) other

  pub len_removed : (m : FinMap R X) (k : K) → fin.len (fin.remove m k) ≤ fin.len m
  len_removed m k = by (fin.contains_key m k) (len-remove keyed.total m k)
    where
      by : (t : Bool) → fin.len (fin.remove m k) ≡ cond t (fin.len m - 1) (fin.len m) → fin.len (fin.remove m k) ≤ fin.len m
      by true e = omega arith
      by false e = omega arith

  -- and where the keys that pass a test are taken away
  pub get_without : (m : FinMap R X) (gone : K → Bool) (q : K) → fin.get (fin.retain_keys m (λ k. not (gone k))) q ≡ cond (gone q) None (fin.get m q)
  get_without m gone q = get-retain_keys m (λ k. not (gone k)) q (λ x e. ap (λ k. not (gone k)) (sym (keyed.same q x e))) ∙ by (gone q)
    where
      by : (t : Bool) → cond (not t) (fin.get m q) None ≡ cond t None (fin.get m q)
      by true = refl
      by false = refl

  pub left_without : (m : FinMap R X) (gone : K → Bool) (q : K) (x : X) → fin.get (fin.retain_keys m (λ k. not (gone k))) q ≡ Some x → (gone q ≡ false) × (fin.get m q ≡ Some x)
  left_without m gone q x h = by (gone q) (sym (get_without m gone q) ∙ h)
    where
      by : (t : Bool) → cond t None (fin.get m q) ≡ Some x → (t ≡ false) × (fin.get m q ≡ Some x)
      by true h = absurd (no_some x h)
      by false h = (refl, h)

  -- ---- a value that passes a test is that of some key
  -- a key above the first isn't found there
  above : (k : K) (es : List (K × X)) → T (below_all R k es) → (q : K) (x : X) → find R q es ≡ Some x → eq_by_cmp R q k ≡ false
  above k [] h q x there = absurd (no_some x there)
  above k (e ∷ es) h q x there =
      let both = both_hold _ _ h in
      elim (eq_by_cmp R q e.0) as (λ t. eq_by_cmp R q e.0 ≡ t → cond t (Some e.1) (find R q es) ≡ Some x → eq_by_cmp R q k ≡ false) [
        | true ↦ λ tied _. ap (λ r. is_eq r) (apart k e.0 q (is_less _ both.0) tied)
        | false ↦ λ _ found. above k es both.1 q x found
      ] refl there
    where
      apart : (k e q : K) → R k e ≡ Less → eq_by_cmp R q e ≡ true → R q k ≡ Greater
      apart k e q less tied =
          let below : R k q ≡ Less = ap (R k) (same_keys keyed q e (keyed.ties q e ∙ tied)) ∙ less in
          keyed.total.antisymm q k ∙ ap ordering_reverse below

  pub entry_found : (P : X → Bool) (es : List (K × X)) → T (is_sorted R es) → list_any P (values_of es) ≡ true → (k : K) × (x : X) × (find R k es ≡ Some x) × (P x ≡ true)
  entry_found P [] sorted h = absurd (true≢false (sym h))
  entry_found P (e ∷ es) sorted h = by (P e.1) refl (both_hold _ _ sorted).0 (λ later. entry_found P es (both_hold _ _ sorted).1 later) h
    where
      by : (t : Bool) → P e.1 ≡ t → T (below_all R e.0 es) → (list_any P (values_of es) ≡ true → (k : K) × (x : X) × (find R k es ≡ Some x) × (P x ≡ true)) → (t || list_any P (values_of es)) ≡ true
          → (k : K) × (x : X) × (find R k (e ∷ es) ≡ Some x) × (P x ≡ true)
      by true passes below rest h = (e.0, e.1, ap (λ b. cond b (Some e.1) (find R e.0 es)) (ap is_eq (tied_itself keyed.total e.0)), passes)
      by false passes below rest h =
          let found = rest h in
          (found.0, found.1, ap (λ b. cond b (Some e.1) (find R found.0 es)) (above e.0 es below found.0 found.1 found.2) ∙ found.2, found.3)

  pub value_found : (P : X → Bool) (m : FinMap R X) → list_any P (fin.values m) ≡ true → (k : K) × (x : X) × (fin.get m k ≡ Some x) × (P x ≡ true)
  value_found P m h = let e = entry_found P (entries m) (entries_sorted m) h in (e.0, e.1, get-entries m e.0 ∙ e.2, e.3)
