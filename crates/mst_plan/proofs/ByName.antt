-- The bound on settlings, from record numbers to names.
use Rattle.std.proofs.Common.{◌≡◌, ◌≢◌, ◌==◌, ◌⊎◌, inl, inr, ℕ, ◌<◌, Bool, true, false, cond, true≢false, List, [], ◌∷◌, length, map, get_or, Option, Some, None, is_some, refl, sym, ap, subst, ◌∙◌, arith}
use Rattle.std.specs.List.{Contains, AllByRecursion, AllPairs, find}
use Rattle.std.specs.List.Sorted.{IsStrictlyIncreasing}
use Rattle.std.specs.Option.{option_map_or, option_or, unwrap_or}
use Rattle.std.specs.Ordering.{is_eq, eq_by_cmp}
use Rattle.std.specs.declared.cmp.Ordering.{Ordering}
use Rattle.std.specs.declared.cmp.Ordering.TheVariants.{Less, Equal, Greater}
use Rattle.std.specs.FinMap as fin
use Rattle.std.specs.FinMap.{FinMap, contains_key-keys}
use Rattle.std.proofs.lemmas.Bool.{eqb-true, eq-eqb}
use Rattle.std.proofs.lemmas.List.{get_or-map, length-map}
use Rattle.std.proofs.lemmas.List.Elements.{Contains-get_or}
use Rattle.std.proofs.lemmas.List.Kept.{AllPairs-from_increasing}
use Rattle.mst_ids.specs.Names.{name_cmp}
use Rattle.mst_trees.proofs.forest_lemmas.Lists.{some_is, no_some, all_contained, contains_mapped, passed}
use Rattle.mst_trees.proofs.forest_lemmas.Views.{name_is}
use Rattle.mst_trees.specs.Bound.{KeepsBound}
use Rattle.mst_plan.specs.ByName.{KeepsBoundByName}

-- the numbers of bridges
abbrev pub BridgeNumbers : Type 0
BridgeNumbers = FinMap name_cmp ℕ

-- no two names have the same number
abbrev Differ : BridgeNumbers → Type 0
Differ m = (a b : List ℕ) (n : ℕ) → fin.get m a ≡ Some n → fin.get m b ≡ Some n → a ≡ b

-- numbers before and after an edit: a name has one number, and a number stands for one name
pub record GoTogether (m k : BridgeNumbers) : Type 0 where
  pub was : Differ m
  pub now : Differ k
  pub same : (a : List ℕ) (i j : ℕ) → fin.get m a ≡ Some i → fin.get k a ≡ Some j → i ≡ j
  pub one : (a b : List ℕ) (n : ℕ) → fin.get m a ≡ Some n → fin.get k b ≡ Some n → a ≡ b

-- vectors by numbers and by names
pub record AreOne {V : Type 0} (m : BridgeNumbers) (by_number : ℕ → Option V) (by_name : List ℕ → Option V) : Type 0 where
  pub named : (a : List ℕ) (n : ℕ) → fin.get m a ≡ Some n → by_number n ≡ by_name a
  pub unnamed : (n : ℕ) → ((a : List ℕ) → fin.get m a ≡ Some n → ⊥) → by_number n ≡ None
  pub unnumbered : (a : List ℕ) → fin.get m a ≡ None → by_name a ≡ None

-- ---- the name of a number
abbrev has_number : BridgeNumbers → ℕ → List ℕ → Bool
has_number m n a = option_map_or (λ i. i == n) (fin.get m a) false

abbrev name_in : BridgeNumbers → ℕ → Option (List ℕ)
name_in m n = find (has_number m n) (fin.keys m)

find_passes : {X : Type 0} (p : X → Bool) (xs : List X) (x : X) → find p xs ≡ Some x → p x ≡ true
find_passes p [] x e = absurd (no_some x e)
find_passes {X} p (y ∷ xs) x e = by (find_passes p xs x) (p y) refl
  where
    by : (find p xs ≡ Some x → p x ≡ true) → (b : Bool) → p y ≡ b → p x ≡ true
    by later true t = ap p (sym (some_is y x (sym (ap (λ b. cond b (Some y) (find p xs)) t) ∙ e))) ∙ t
    by later false t = later (sym (ap (λ b. cond b (Some y) (find p xs)) t) ∙ e)

find_none : {X : Type 0} (p : X → Bool) (xs : List X) → find p xs ≡ None → AllByRecursion (λ x. p x ≡ false) xs
find_none p [] e = tt
find_none {X} p (y ∷ xs) e = by (find_none p xs) (p y) refl
  where
    by : (find p xs ≡ None → AllByRecursion (λ x. p x ≡ false) xs) → (b : Bool) → p y ≡ b → (p y ≡ false) × AllByRecursion (λ x. p x ≡ false) xs
    by later true t = absurd (no_some y (sym e ∙ ap (λ b. cond b (Some y) (find p xs)) t))
    by later false t = (t, later (sym (ap (λ b. cond b (Some y) (find p xs)) t) ∙ e))

tied : (o : Ordering) → is_eq o ≡ true → o ≡ Equal
tied Less e = absurd (true≢false (sym e))
tied Equal e = refl
tied Greater e = absurd (true≢false (sym e))

module _ (m : BridgeNumbers) (n : ℕ) where
  number_from : (a : List ℕ) → has_number m n a ≡ true → fin.get m a ≡ Some n
  number_from a e = by (fin.get m a) refl
    where
      by : (o : Option ℕ) → fin.get m a ≡ o → fin.get m a ≡ Some n
      by None h = absurd (true≢false (sym e ∙ ap (λ o. option_map_or (λ i. i == n) o false) h))
      by (Some i) h = h ∙ ap Some (eqb-true i n (sym (ap (λ o. option_map_or (λ i. i == n) o false) h) ∙ e))

  number_to : (a : List ℕ) → fin.get m a ≡ Some n → has_number m n a ≡ true
  number_to a h = ap (λ o. option_map_or (λ i. i == n) o false) h ∙ eq-eqb n n refl

  key_there : (a : List ℕ) → fin.get m a ≡ Some n → Contains (fin.keys m) a
  key_there a h =
      let found = passed (eq_by_cmp name_cmp a) (fin.keys m) (sym (contains_key-keys m a) ∙ ap is_some h) in
      subst (Contains (fin.keys m)) (sym (name_is a found.0 (tied (name_cmp a found.0) found.2))) found.1

  name_has : (a : List ℕ) → name_in m n ≡ Some a → fin.get m a ≡ Some n
  name_has a e = number_from a (find_passes (has_number m n) (fin.keys m) a e)

  no_name : name_in m n ≡ None → (a : List ℕ) → fin.get m a ≡ Some n → ⊥
  no_name e a h = true≢false (sym (number_to a h) ∙ all_contained (λ x. has_number m n x ≡ false) (fin.keys m) a (find_none (has_number m n) (fin.keys m) e) (key_there a h))

-- ---- what is found in a list of names that come of numbers
module _ (f : ℕ → List ℕ) (xs : List ℕ) where
  from_mapped : (a : List ℕ) → Contains (map f xs) a → (n : ℕ) × Contains xs n × (f n ≡ a)
  from_mapped a c =
      let small : c.0 < length xs = rw (sym (length-map xs f)) c.1 in
      (get_or xs c.0 0, Contains-get_or xs c.0 0 small, sym (get_or-map f xs c.0 0 a small) ∙ c.2)

  once : IsStrictlyIncreasing xs → ((x y : ℕ) → Contains xs x → Contains xs y → f x ≡ f y → x ≡ y) → AllPairs (λ a b. a ≢ b) (map f xs)
  once rise apart i j d low below e =
      let small : j < length xs = rw (sym (length-map xs f)) below in
      let before : i < length xs = omega (arith, low, small) in
      let rising : get_or xs i 0 < get_or xs j 0 = AllPairs-from_increasing xs rise i j 0 low small in
      let same : get_or xs i 0 ≡ get_or xs j 0 =
      apart (get_or xs i 0) (get_or xs j 0) (Contains-get_or xs i 0 before) (Contains-get_or xs j 0 small)
      (sym (get_or-map f xs i 0 d before) ∙ e ∙ get_or-map f xs j 0 d small) in
      omega (arith, rising, same)

-- ---- the bound
module _ {V : Type 0} (m k : BridgeNumbers) (together : GoTogether m k) (before after : ℕ → Option V) (was now : List ℕ → Option V) (old : AreOne m before was) (new : AreOne k after now) where
  abbrev IsNumberOf : ℕ → List ℕ → Type 0
  IsNumberOf n a = (fin.get m a ≡ Some n) ⊎ (fin.get k a ≡ Some n)

  -- of a number and its name vectors are the same, before and after
  was_at : (n : ℕ) (a : List ℕ) → IsNumberOf n a → before n ≡ was a
  was_at n a (inl h) = old.named a n h
  was_at n a (inr h) = by (fin.get m a) refl
    where
      by : (o : Option ℕ) → fin.get m a ≡ o → before n ≡ was a
      by (Some i) e = old.named a n (e ∙ ap Some (together.same a i n e h))
      by None e = old.unnamed n (λ b f. no_some n (sym e ∙ ap (fin.get m) (sym (together.one b a n f h)) ∙ f)) ∙ sym (old.unnumbered a e)

  now_at : (n : ℕ) (a : List ℕ) → IsNumberOf n a → after n ≡ now a
  now_at n a (inr h) = new.named a n h
  now_at n a (inl h) = by (fin.get k a) refl
    where
      by : (o : Option ℕ) → fin.get k a ≡ o → after n ≡ now a
      by (Some i) e = new.named a n (e ∙ ap Some (sym (together.same a n i h e)))
      by None e = new.unnamed n (λ b f. no_some n (sym e ∙ ap (fin.get k) (together.one a b n h f) ∙ f)) ∙ sym (new.unnumbered a e)

  abbrev name_of : ℕ → List ℕ
  name_of n = unwrap_or (option_or (name_in m n) (name_in k n)) []

  -- a number at which they differ has its name
  named : (n : ℕ) → before n ≢ after n → IsNumberOf n (name_of n)
  named n differ = by (name_in m n) (name_in k n) refl refl
    where
      by : (o p : Option (List ℕ)) → name_in m n ≡ o → name_in k n ≡ p → IsNumberOf n (name_of n)
      by (Some a) p e f = inl (ap (λ (o : Option (List ℕ)). fin.get m (unwrap_or (option_or o (name_in k n)) [])) e ∙ name_has m n a e)
      by None (Some a) e f = inr (ap (fin.get k) (λ i. unwrap_or (option_or (e i) (f i)) []) ∙ name_has k n a f)
      by None None e f = absurd (differ (old.unnamed n (no_name m n e) ∙ sym (new.unnamed n (no_name k n f))))

  number_is : (x y : ℕ) (a : List ℕ) → IsNumberOf x a → IsNumberOf y a → x ≡ y
  number_is x y a (inl h) (inl i) = some_is x y (sym h ∙ i)
  number_is x y a (inl h) (inr i) = together.same a x y h i
  number_is x y a (inr h) (inl i) = sym (together.same a y x i h)
  number_is x y a (inr h) (inr i) = some_is x y (sym h ∙ i)

  -- a name at which they differ has a number
  numbered : (a : List ℕ) → was a ≢ now a → (n : ℕ) × IsNumberOf n a
  numbered a differ = by (fin.get m a) (fin.get k a) refl refl
    where
      by : (o p : Option ℕ) → fin.get m a ≡ o → fin.get k a ≡ p → (n : ℕ) × IsNumberOf n a
      by (Some n) p e f = (n, inl e)
      by None (Some n) e f = (n, inr f)
      by None None e f = absurd (differ (old.unnumbered a e ∙ sym (new.unnumbered a f)))

  module _ (xs : List ℕ) (rise : IsStrictlyIncreasing xs) (differ : (n : ℕ) → Contains xs n → before n ≢ after n) where
    names_once : AllPairs (λ a b. a ≢ b) (map name_of xs)
    names_once = once name_of xs rise (λ x y c d e. number_is x y (name_of x) (named x (differ x c)) (subst (IsNumberOf y) (sym e) (named y (differ y d))))

  pub by_name : (settlings : ℕ) → KeepsBound before after settlings → KeepsBoundByName was now settlings
  by_name settlings bound = record {
    changed = map name_of bound.changed;
    changed_once = names_once bound.changed bound.changed_ascend (λ n. (bound.are_changed n).0);
    are_changed = λ a. (
      λ c. (let n = from_mapped name_of bound.changed a c in
          let differ = (bound.are_changed n.0).0 n.1 in
          let is = subst (IsNumberOf n.0) n.2 (named n.0 differ) in
          λ e. differ (was_at n.0 a is ∙ e ∙ sym (now_at n.0 a is))),
      λ differ. (let n = numbered a differ in
          let apart : before n.0 ≢ after n.0 = λ e. differ (sym (was_at n.0 a n.1) ∙ e ∙ now_at n.0 a n.1) in
          subst (Contains (map name_of bound.changed)) (name_is_of n.0 a n.1 apart) (contains_mapped name_of bound.changed n.0 ((bound.are_changed n.0).1 apart))),
    );
    settled = map name_of bound.settled;
    settled_once = names_once bound.settled bound.settled_ascend (λ n c. ((bound.are_settled n).0 c).0);
    are_settled = λ a. (
      λ c. (let n = from_mapped name_of bound.settled a c in
          let differ = (bound.are_settled n.0).0 n.1 in
          let is = subst (IsNumberOf n.0) n.2 (named n.0 differ.0) in
          (λ e. differ.0 (was_at n.0 a is ∙ e ∙ sym (now_at n.0 a is)), λ e. differ.1 (now_at n.0 a is ∙ e))),
      λ differ. (let n = numbered a differ.0 in
          let apart : before n.0 ≢ after n.0 = λ e. differ.0 (sym (was_at n.0 a n.1) ∙ e ∙ now_at n.0 a n.1) in
          subst (Contains (map name_of bound.settled)) (name_is_of n.0 a n.1 apart)
          (contains_mapped name_of bound.settled n.0 ((bound.are_settled n.0).1 (apart, λ e. differ.1 (sym (now_at n.0 a n.1) ∙ e))))),
    );
    at_least = rw (length-map bound.settled name_of) bound.at_least;
    at_most = rw (length-map bound.changed name_of) bound.at_most;
  }
    where
      name_is_of : (n : ℕ) (a : List ℕ) → IsNumberOf n a → before n ≢ after n → name_of n ≡ a
      name_is_of n a is apart = one_name (name_of n) a (named n apart) is
        where
          one_name : (a b : List ℕ) → IsNumberOf n a → IsNumberOf n b → a ≡ b
          one_name a b (inl h) (inr i) = together.one a b n h i
          one_name a b (inr h) (inl i) = sym (together.one b a n i h)
          one_name a b (inl h) (inl i) = together.was a b n h i
          one_name a b (inr h) (inr i) = together.now a b n h i
