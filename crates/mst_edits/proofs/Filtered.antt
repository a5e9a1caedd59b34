-- Numbers in a row that pass a test.
use Rattle.std.proofs.Common.{◌≡◌, ℕ, zero, suc, ◌+◌, ◌<◌, ◌≤◌, Bool, true, false, cond, ◌||◌, List, [], ◌∷◌, ◌++◌, length, take, get_or, refl, sym, ap, ◌∙◌, arith, append-nil, true≢false}
use Rattle.std.specs.Prelude.{◌==◌}
use Rattle.std.specs.List.{filter, list_any, range_with_len}
use Rattle.std.proofs.lemmas.Bool.{or_from, ne_eqb, eq-eqb}
use Rattle.std.proofs.lemmas.List.{take_more}
use Rattle.std.proofs.lemmas.List.Elements.{filter-append}
use Rattle.mst_net.proofs.tables_lemmas.Rising.{range_more}
use Rattle.mst_net.specs.tables.TreesSet.{trees_where}
use Rattle.mst_edits.proofs.Lists.{any_passing}

one_tested : (test : ℕ → Bool) (from k number : ℕ) → number ≡ from + k → filter test (range_with_len from (k + 1)) ≡ filter test (range_with_len from k) ++ cond (test number) (number ∷ []) []
one_tested test from k number is =
    ap (filter test) (range_more from k) ∙ filter-append test (range_with_len from k) ((from + k) ∷ [])
    ∙ ap (λ n. filter test (range_with_len from k) ++ cond (test n) (n ∷ []) []) (sym is)

pub one_passes : (test : ℕ → Bool) (from k next number : ℕ) → number ≡ from + k → next ≡ k + 1 → test number ≡ true → filter test (range_with_len from next) ≡ filter test (range_with_len from k) ++ number ∷ []
one_passes test from k next number is up passes =
    ap (λ n. filter test (range_with_len from n)) up ∙ one_tested test from k number is ∙ ap (λ b. filter test (range_with_len from k) ++ cond b (number ∷ []) []) passes

pub one_fails : (test : ℕ → Bool) (from k next number : ℕ) → number ≡ from + k → next ≡ k + 1 → test number ≡ false → filter test (range_with_len from next) ≡ filter test (range_with_len from k)
one_fails test from k next number is up fails =
    ap (λ n. filter test (range_with_len from n)) up ∙ one_tested test from k number is ∙ ap (λ b. filter test (range_with_len from k) ++ cond b (number ∷ []) []) fails ∙ append-nil (filter test (range_with_len from k))

-- tests that agree on them
pub same_passing : (p q : ℕ → Bool) (n a : ℕ) → ((k : ℕ) → a ≤ k → k < a + n → p k ≡ q k) → filter p (range_with_len a n) ≡ filter q (range_with_len a n)
same_passing p q zero a same = refl
same_passing p q (suc n) a same =
    ap (λ b. cond b (a ∷ filter p (range_with_len (a + 1) n)) (filter p (range_with_len (a + 1) n))) (same a (omega arith) (omega arith))
    ∙ ap (λ l. cond (q a) (a ∷ l) l) (same_passing p q n (a + 1) (λ k low high. same k (omega arith) (omega arith)))

-- where none passes one of two tests none passes either
pub none_either : (p q : ℕ → Bool) (xs : List ℕ) → filter p xs ≡ [] → filter q xs ≡ [] → filter (λ x. p x || q x) xs ≡ []
none_either p q [] e f = refl
none_either p q (x ∷ xs) e f = by (p x) (q x) refl refl e f (none_either p q xs)
  where
    by : (a b : Bool) → p x ≡ a → q x ≡ b → cond a (x ∷ filter p xs) (filter p xs) ≡ [] → cond b (x ∷ filter q xs) (filter q xs) ≡ [] → (filter p xs ≡ [] → filter q xs ≡ [] → filter (λ x. p x || q x) xs ≡ []) → filter (λ x. p x || q x) (x ∷ xs) ≡ []
    by false false pe qe pn qn rest = ap (λ t. cond t (x ∷ filter (λ x. p x || q x) xs) (filter (λ x. p x || q x) xs)) (or_from (p x) (q x) pe qe) ∙ rest pn qn
    by false true pe qe pn qn rest = let l = ap length qn in absurd (omega (arith, l))
    by true b pe qe pn qn rest = let l = ap length pn in absurd (omega (arith, l))

-- a number is among those that pass where it does
not_among : (p : ℕ → Bool) (k : ℕ) → p k ≡ false → (xs : List ℕ) → list_any (λ t. t == k) (filter p xs) ≡ false
not_among p k fails [] = refl
not_among p k fails (x ∷ xs) = by (p x) refl (not_among p k fails xs)
  where
    by : (b : Bool) → p x ≡ b → list_any (λ t. t == k) (filter p xs) ≡ false → list_any (λ t. t == k) (cond b (x ∷ filter p xs) (filter p xs)) ≡ false
    by true e rest = or_from (x == k) _ (ne_eqb x k (λ same. true≢false (sym e ∙ ap p same ∙ fails))) rest
    by false e rest = rest

pub among : (p : ℕ → Bool) (k : ℕ) → k < 4095 → list_any (λ t. t == k) (trees_where p) ≡ p k
unfolding trees_where
among p k small = by (p k) refl
  where
    by : (b : Bool) → p k ≡ b → list_any (λ t. t == k) (filter p (range_with_len 0 4095)) ≡ b
    by true e = any_passing (λ t. t == k) p k 0 4095 (omega arith) (omega arith) e (eq-eqb k k refl)
    by false e = not_among p k e (range_with_len 0 4095)

pub same_trees : (p q : ℕ → Bool) → ((k : ℕ) → k < 4095 → p k ≡ q k) → trees_where p ≡ trees_where q
unfolding trees_where
same_trees p q same = same_passing p q 4095 0 (λ k low high. same k (omega arith))

pub no_trees_either : (p q : ℕ → Bool) → trees_where p ≡ [] → trees_where q ≡ [] → trees_where (λ t. p t || q t) ≡ []
unfolding trees_where
no_trees_either p q e f = none_either p q (range_with_len 0 4095) e f

pub all_trees : (test : ℕ → Bool) → filter test (range_with_len 0 4095) ≡ trees_where test
unfolding trees_where
all_trees test = refl

pub or_false : (b : Bool) → (b || false) ≡ b
or_false true = refl
or_false false = refl

-- one more element
pub one_kept : (test : ℕ → Bool) (xs : List ℕ) (i x : ℕ) (b : Bool) → i < length xs → x ≡ get_or xs i x → test x ≡ b → filter test (take (i + 1) xs) ≡ filter test (take i xs) ++ cond b (x ∷ []) []
one_kept test xs i x b below is passes =
    ap (filter test) (take_more xs i x below) ∙ filter-append test (take i xs) (get_or xs i x ∷ [])
    ∙ ap (λ y. filter test (take i xs) ++ filter test (y ∷ [])) (sym is) ∙ ap (λ t. filter test (take i xs) ++ cond t (x ∷ []) []) passes
