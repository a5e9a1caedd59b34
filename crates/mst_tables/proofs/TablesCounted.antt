-- How many trees a table has after VIDs were mapped to one.
use Rattle.std.proofs.Common.{◌≡◌, ℕ, zero, suc, ◌+◌, ◌<◌, ◌≤◌, ◌⊎◌, inl, inr, Bool, true, false, cond, ◌||◌, List, [], ◌∷◌, map, get_or, Option, Some, None, refl, sym, ap, subst, ◌∙◌, arith, true≢false}
use Rattle.std.specs.Prelude.{◌==◌, if◌then◌else◌}
use Rattle.std.specs.List.{list_any, range_with_len, count_by}
use Rattle.std.proofs.lemmas.Bool.{cases_eq, or_right, or_left, eq-eqb, eqb-true}
use Rattle.std.proofs.lemmas.List.Sums.{sum_by-cons}
use Rattle.mst_ids.specs.Vids.{has}
use Rattle.mst_tables.specs.Table.{no_table, tree_in, mapped, has_tree, tree_count}
use Rattle.mst_tables.proofs.TreesListed.{none_has}

-- ---- numbers that pass a test, counted
head : (p : ℕ → Bool) (a n : ℕ) → count_by p (range_with_len a (suc n)) ≡ cond (p a) 1 0 + count_by p (range_with_len (a + 1) n)
head p a n = sum_by-cons (λ y. cond (p y) 1 0) a (range_with_len (a + 1) n)

count_none : (p : ℕ → Bool) (a n : ℕ) → ((k : ℕ) → a ≤ k → p k ≡ false) → count_by p (range_with_len a n) ≡ 0
count_none p a zero fails = refl
count_none p a (suc n) fails =
    let first : ◌≡◌ {A = ℕ} (cond (p a) 1 0) 0 = ap (λ b. cond b 1 0) (fails a (omega arith)) in
    omega (arith, head p a n, first, count_none p (a + 1) n (λ k h. fails k (omega arith)))

at_most_one : (b : Bool) → cond b 1 0 ≤ 1
at_most_one true = omega arith
at_most_one false = omega arith

weaker_first : (a b : Bool) → (a ≡ true → b ≡ true) → cond a 1 0 ≤ cond b 1 0
weaker_first true true h = omega arith
weaker_first true false h = absurd (true≢false (sym (h refl)))
weaker_first false b h = omega arith

-- those that pass one test pass another
count_weaker : (p q : ℕ → Bool) (a n : ℕ) → ((k : ℕ) → a ≤ k → p k ≡ true → q k ≡ true) → count_by p (range_with_len a n) ≤ count_by q (range_with_len a n)
count_weaker p q a zero weaker = omega arith
count_weaker p q a (suc n) weaker =
    omega (arith, head p a n, head q a n, weaker_first (p a) (q a) (weaker a (omega arith)), count_weaker p q (a + 1) n (λ k h. weaker k (omega arith)))

-- all of them but one do
count_but_one : (p q : ℕ → Bool) (one a n : ℕ) → ((k : ℕ) → a ≤ k → p k ≡ true → (one ≡ k) ⊎ (q k ≡ true)) → count_by p (range_with_len a n) ≤ count_by q (range_with_len a n) + 1
count_but_one p q one a zero but = omega arith
count_but_one p q one a (suc n) but = by (cases_eq one a) (count_but_one p q one (a + 1) n (λ k h. but k (omega arith)))
  where
    other : (k : ℕ) → (one ≡ k → ⊥) → (one ≡ k) ⊎ (q k ≡ true) → q k ≡ true
    other k differs (inl is) = absurd (differs is)
    other k differs (inr h) = h

    by : (one ≡ a) ⊎ (one ≡ a → ⊥) → count_by p (range_with_len (a + 1) n) ≤ count_by q (range_with_len (a + 1) n) + 1 → count_by p (range_with_len a (suc n)) ≤ count_by q (range_with_len a (suc n)) + 1
    by (inl here) rest =
        omega (arith, head p a n, head q a n, at_most_one (p a), count_weaker p q (a + 1) n (λ k h passes. other k (λ is. omega (arith, is, here, h)) (but k (omega arith) passes)))
    by (inr differs) rest = omega (arith, head p a n, head q a n, weaker_first (p a) (q a) (λ passes. other a differs (but a (omega arith) passes)), rest)

-- ---- trees counted
has_place : (xs : List ℕ) (i k : ℕ) → get_or xs i 0 ≡ k → 1 ≤ k → list_any (λ t. t == k) xs ≡ true
has_place [] i k is some = absurd (omega (arith, is, some))
has_place (x ∷ xs) zero k is some = or_left (x == k) _ (eq-eqb x k is)
has_place (x ∷ xs) (suc i) k is some = or_right (x == k) _ (has_place xs i k is some)

of_vid : (vids : List Bool) (tree : ℕ) (table : List ℕ) (k : ℕ) → 1 ≤ k → (b : Bool) (vid : ℕ) → (if b then tree else tree_in table vid) ≡ k → (tree ≡ k) ⊎ (has_tree table k ≡ true)
of_vid vids tree table k some true vid is = inl is
of_vid vids tree table k some false zero is = absurd (omega (arith, is, some))
of_vid vids tree table k some false (suc i) is = inr (has_place table i k is some)

-- a tree of the table after is the one that VIDs were mapped to, or was there
was_there : (vids : List Bool) (tree : ℕ) (table : List ℕ) (k : ℕ) → 1 ≤ k → (numbers : List ℕ) → list_any (λ t. t == k) (map (λ vid. if has vids vid then tree else tree_in table vid) numbers) ≡ true → (tree ≡ k) ⊎ (has_tree table k ≡ true)
was_there vids tree table k some [] h = absurd (true≢false (sym h))
was_there vids tree table k some (vid ∷ numbers) h = by ((if has vids vid then tree else tree_in table vid) == k) refl h (was_there vids tree table k some numbers)
  where
    by : (t : Bool) → ((if has vids vid then tree else tree_in table vid) == k) ≡ t → (t || list_any (λ t. t == k) (map (λ vid. if has vids vid then tree else tree_in table vid) numbers)) ≡ true
        → (list_any (λ t. t == k) (map (λ vid. if has vids vid then tree else tree_in table vid) numbers) ≡ true → (tree ≡ k) ⊎ (has_tree table k ≡ true)) → (tree ≡ k) ⊎ (has_tree table k ≡ true)
    by true e h later = of_vid vids tree table k some (has vids vid) vid (eqb-true (if has vids vid then tree else tree_in table vid) k e)
    by false e h later = later h

-- mapping adds one tree at most
pub one_more : (vids : List Bool) (tree : ℕ) (table : List ℕ) → tree_count (mapped vids tree table) ≤ tree_count table + 1
unfolding tree_count mapped
one_more vids tree table = count_but_one (has_tree (mapped vids tree table)) (has_tree table) tree 1 4094 (λ k some h. was_there vids tree table k some (range_with_len 1 4094) h)

-- and where none is mapped there is none
pub none_counted : tree_count no_table ≡ 0
unfolding tree_count no_table
none_counted = count_none (has_tree no_table) 1 4094 (λ k some. none_has 4094 k (λ e. omega (arith, e, some)))
