-- How many entries of a table pass a test, as the table changes.
use Rattle.std.proofs.Common.{◌≡◌, ◌+◌, ◌≤◌, ℕ, Bool, true, false, cond, ◌||◌, List, [], ◌∷◌, Option, Some, None, is_some, nat_lt, refl, sym, ap, subst, ◌∙◌, arith, true≢false}
use Rattle.std.specs.List.{count_by, list_any}
use Rattle.std.proofs.lemmas.List.Sums.{sum_by-cons, count_by-le-length}
use Rattle.std.proofs.lemmas.Bool.{lt-ltb}
use Rattle.std.specs.FinMap as fin
use Rattle.std.specs.FinMap.{FinMap, find, put, get-entries, same_map, entries-insert, len-empty, len-entries, entries}
use Rattle.std.specs.FinMap.Entries.{by_order}
use Rattle.std.specs.Cmp.{eq_by_cmp_equiv}
use Rattle.std.specs.Ordering.{is_eq, eq_by_cmp}
use Rattle.std.specs.declared.cmp.Ordering.{Ordering}
use Rattle.std.specs.declared.cmp.Ordering.TheVariants.{Less, Equal, Greater}
use Rattle.mst_tables.specs.Counting.{count_where}
use Rattle.mst_tables.proofs.Somes.{some_is, no_some}
use Rattle.mst_tables.proofs.Keyed.{IsKeyed, same_keys, get_inserted, get_removed}

count_cons : {X : Type 0} (p : X → Bool) (x : X) (xs : List X) → count_by p (x ∷ xs) ≡ cond (p x) 1 0 + count_by p xs
count_cons p x xs = sum_by-cons (λ y. cond (p y) 1 0) x xs

zero_more : (n : ℕ) → 0 + n ≡ n
zero_more n = omega arith

any_by_count : {X : Type 0} (p : X → Bool) (xs : List X) → nat_lt 0 (count_by p xs) ≡ list_any p xs
any_by_count p [] = refl
any_by_count p (x ∷ xs) = ap (nat_lt 0) (count_cons p x xs) ∙ by (p x) (any_by_count p xs)
  where
    by : (b : Bool) → nat_lt 0 (count_by p xs) ≡ list_any p xs → nat_lt 0 (cond b 1 0 + count_by p xs) ≡ (b || list_any p xs)
    by true rest = lt-ltb 0 (1 + count_by p xs) (omega arith)
    by false rest = ap (nat_lt 0) (zero_more (count_by p xs)) ∙ rest

shifted : (a b n m : ℕ) → n ≡ m + a → b + n ≡ (b + m) + a
shifted a b n m e = omega arith

front : (a m : ℕ) → a + m ≡ m + a
front a m = omega arith

exchanged : (old new rest x v : ℕ) → old ≡ rest + x → new ≡ rest + v → new + x ≡ old + v
exchanged old new rest x v e f = omega arith

nothing : (n len : ℕ) → n ≤ len → len ≡ 0 → n ≡ 0
nothing n len le e = omega arith

either : (a : Bool) {b : Bool} → b ≡ true → (a || b) ≡ true
either true h = refl
either false h = h

absent : {X : Type 0} (o : Option X) → is_some o ≡ false → o ≡ None
absent None e = refl
absent (Some x) e = absurd (true≢false e)

module _ {K X : Type 0} {E : K → K → Bool} {R : K → K → Ordering} (keyed : IsKeyed E R) (test : K → X → Bool) where
  count_put : (k : K) (v : X) (es : List (K × X)) → find R k es ≡ None → count_by (λ e. test e.0 e.1) (put R k v es) ≡ count_by (λ e. test e.0 e.1) es + cond (test k v) 1 0
  count_put k v [] none = refl
  count_put k v (e ∷ es) none =
      let p : K × X → Bool = λ e. test e.0 e.1 in
      elim (R k e.0) as (λ r. cond (is_eq r) (Some e.1) (find R k es) ≡ None
      → count_by p (by_order r ((k, v) ∷ e ∷ es) ((e.0, v) ∷ es) (e ∷ put R k v es)) ≡ count_by p (e ∷ es) + cond (test k v) 1 0) [
        | Less ↦ λ _. count_cons p (k, v) (e ∷ es) ∙ front (cond (test k v) 1 0) (count_by p (e ∷ es))
        | Equal ↦ λ n. absurd (no_some e.1 (sym n))
        | Greater ↦ λ n.
            count_cons p e (put R k v es)
            ∙ shifted (cond (test k v) 1 0) (cond (p e) 1 0) (count_by p (put R k v es)) (count_by p es) (count_put k v es n)
            ∙ ap (λ c. c + cond (test k v) 1 0) (sym (count_cons p e es))
      ] none

  -- an entry with a new key is counted where it passes
  pub count_added : (m : FinMap R X) (k : K) (v : X) → fin.contains_key m k ≡ false → count_where test (fin.insert m k v) ≡ count_where test m + cond (test k v) 1 0
  count_added m k v none =
      ap (count_by (λ e. test e.0 e.1)) (entries-insert keyed.total m k v)
      ∙ count_put k v (entries m) (absent (find R k (entries m)) (sym (ap is_some (get-entries m k)) ∙ none))

  -- a removed key is absent, and with a value again the rest is as it was
  gone : (m : FinMap R X) (k : K) → fin.contains_key (fin.remove m k) k ≡ false
  gone m k = ap is_some (get_removed keyed m k k ∙ ap (λ b. cond b None (fin.get m k)) (keyed.ties k k ∙ (eq_by_cmp_equiv keyed.total).refl k))

  put_back : (m : FinMap R X) (k : K) (v : X) → fin.insert (fin.remove m k) k v ≡ fin.insert m k v
  put_back m k v = same_map keyed.total keyed.same _ _ (λ q.
      get_inserted keyed (fin.remove m k) k v q ∙ ap (cond (E k q) (Some v)) (get_removed keyed m k q)
      ∙ by (E k q) (fin.get m q) ∙ sym (get_inserted keyed m k v q))
    where
      by : (b : Bool) (o : Option X) → cond b (Some v) (cond b None o) ≡ cond b (Some v) o
      by true o = refl
      by false o = refl

  as_it_was : (m : FinMap R X) (k : K) (x : X) → fin.get m k ≡ Some x → fin.insert m k x ≡ m
  as_it_was m k x there = same_map keyed.total keyed.same _ _ (λ q. get_inserted keyed m k x q ∙ by q (E k q) refl)
    where
      by : (q : K) (b : Bool) → E k q ≡ b → cond b (Some x) (fin.get m q) ≡ fin.get m q
      by q true e = sym there ∙ ap (fin.get m) (same_keys keyed k q e)
      by q false e = refl

  rest_counted : (m : FinMap R X) (k : K) (v : X) → count_where test (fin.insert m k v) ≡ count_where test (fin.remove m k) + cond (test k v) 1 0
  rest_counted m k v = ap (count_where test) (sym (put_back m k v)) ∙ count_added (fin.remove m k) k v (gone m k)

  -- a removed entry is no longer counted, where it passed
  pub count_removed : (m : FinMap R X) (k : K) (x : X) → fin.get m k ≡ Some x → count_where test (fin.remove m k) + cond (test k x) 1 0 ≡ count_where test m
  count_removed m k x there = sym (rest_counted m k x) ∙ ap (count_where test) (as_it_was m k x there)

  -- a value is counted in the place of the one that was there
  pub count_set : (m : FinMap R X) (k : K) (v x : X) → fin.get m k ≡ Some x → count_where test (fin.insert m k v) + cond (test k x) 1 0 ≡ count_where test m + cond (test k v) 1 0
  count_set m k v x there =
      exchanged (count_where test m) (count_where test (fin.insert m k v)) (count_where test (fin.remove m k)) (cond (test k x) 1 0) (cond (test k v) 1 0)
      (sym (count_removed m k x there)) (rest_counted m k v)

  -- no more than all are counted, and none of none
  pub count_le : (m : FinMap R X) → count_where test m ≤ fin.len m
  count_le m = subst (λ n. count_where test m ≤ n) (sym (len-entries m)) (count_by-le-length (λ e. test e.0 e.1) (entries m))

  pub count_empty : count_where test (fin.empty {X = X} {R = R}) ≡ 0
  count_empty = nothing (count_where test (fin.empty {X = X} {R = R})) (fin.len (fin.empty {X = X} {R = R})) (count_le fin.empty) (len-empty R X)

  -- some are counted where some entry passes
  pub any_counted : (m : FinMap R X) → nat_lt 0 (count_where test m) ≡ list_any (λ e. test e.0 e.1) (entries m)
  any_counted m = any_by_count (λ e. test e.0 e.1) (entries m)

  found_passes : (k : K) (x : X) (es : List (K × X)) → find R k es ≡ Some x → test k x ≡ true → list_any (λ e. test e.0 e.1) es ≡ true
  found_passes k x [] there passes = absurd (no_some x there)
  found_passes k x (e ∷ es) there passes =
      elim (eq_by_cmp R k e.0) as (λ b. eq_by_cmp R k e.0 ≡ b → cond b (Some e.1) (find R k es) ≡ Some x → (test e.0 e.1 || list_any (λ e. test e.0 e.1) es) ≡ true) [
        | true ↦ λ t h.
            let key : k ≡ e.0 = same_keys keyed k e.0 (keyed.ties k e.0 ∙ t) in
            ap (λ b. b || list_any (λ e. test e.0 e.1) es) (ap (λ y. test y e.1) (sym key) ∙ ap (test k) (some_is e.1 x h) ∙ passes)
        | false ↦ λ t h. either (test e.0 e.1) (found_passes k x es h passes)
      ] refl there

  -- an entry that passes is among those that a test of the entries finds
  pub some_counted : (m : FinMap R X) (k : K) (x : X) → fin.get m k ≡ Some x → test k x ≡ true → list_any (λ e. test e.0 e.1) (entries m) ≡ true
  some_counted m k x there passes = found_passes k x (entries m) (sym (get-entries m k) ∙ there) passes

  -- where that finds none, no entry passes
  pub none_counted : (m : FinMap R X) → list_any (λ e. test e.0 e.1) (entries m) ≡ false → (k : K) (x : X) → fin.get m k ≡ Some x → test k x ≡ true → ⊥
  none_counted m none k x there passes = true≢false (sym (some_counted m k x there passes) ∙ none)
