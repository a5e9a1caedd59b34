-- The trees that pass a test, one after another.
use Rattle.std.proofs.Common.{◌≡◌, ℕ, zero, suc, ◌+◌, ◌-◌, ◌<◌, ◌≤◌, Bool, true, false, cond, List, [], ◌∷◌, ◌++◌, length, not, Option, Some, None, is_some, refl, sym, ap, ◌∙◌, arith, true≢false}
use Rattle.std.specs.Prelude.{◌==◌, replicate}
use Rattle.std.specs.List.{filter, list_any, range_with_len}
use Rattle.std.specs.Map.{lookup}
use Rattle.std.specs.Option.{unwrap_or}
use Rattle.std.proofs.lemmas.List.{append-nil}
use Rattle.std.proofs.lemmas.List.Elements.{filter-append}
use Rattle.std.proofs.lemmas.Bool.{ne_eqb, or_from}
use Rattle.mst_tables.specs.Table.{no_table, has_tree, mstis_in}
use Rattle.mst_tables.specs.TreesSet.{trees_where}
use Rattle.mst_tables.proofs.Rising.{range_more}

passing_more : (test : ℕ → Bool) (n : ℕ) → filter test (range_with_len 0 (n + 1)) ≡ filter test (range_with_len 0 n) ++ cond (test n) (n ∷ []) []
passing_more test n =
    let same : 0 + n ≡ n = omega arith in
    ap (filter test) (range_more 0 n ∙ ap (λ x. range_with_len 0 n ++ x ∷ []) same) ∙ filter-append test (range_with_len 0 n) (n ∷ [])

pub one_passes : (test : ℕ → Bool) (n : ℕ) → test n ≡ true → filter test (range_with_len 0 (n + 1)) ≡ filter test (range_with_len 0 n) ++ n ∷ []
one_passes test n passes = passing_more test n ∙ ap (λ b. filter test (range_with_len 0 n) ++ cond b (n ∷ []) []) passes

one_fails : (test : ℕ → Bool) (n : ℕ) → test n ≡ false → filter test (range_with_len 0 (n + 1)) ≡ filter test (range_with_len 0 n)
one_fails test n fails = passing_more test n ∙ ap (λ b. filter test (range_with_len 0 n) ++ cond b (n ∷ []) []) fails ∙ append-nil (filter test (range_with_len 0 n))

pub some_fail : (test : ℕ → Bool) (count n m : ℕ) → m ≡ n + count → ((k : ℕ) → n ≤ k → k < m → test k ≡ false) → filter test (range_with_len 0 m) ≡ filter test (range_with_len 0 n)
some_fail test zero n m is fail = let same : m ≡ n = omega arith in ap (λ k. filter test (range_with_len 0 k)) same
some_fail test (suc count) n m is fail =
    some_fail test count (n + 1) m (omega arith) (λ k a b. fail k (omega arith) b) ∙ one_fails test n (fail n (omega arith) (omega arith))

pub all_listed : (test : ℕ → Bool) (n : ℕ) → n ≡ 4095 → filter test (range_with_len 0 n) ≡ trees_where test
unfolding trees_where
all_listed test n is = ap (λ k. filter test (range_with_len 0 k)) is

-- those that pass a test, of those that pass a weaker one
filtered : (p q : ℕ → Bool) → ((t : ℕ) → p t ≡ true → q t ≡ true) → (ts : List ℕ) → filter p (filter q ts) ≡ filter p ts
filtered p q weaker [] = refl
filtered p q weaker (t ∷ ts) = by (p t) (q t) refl refl (filtered p q weaker ts)
  where
    by : (a b : Bool) → p t ≡ a → q t ≡ b → filter p (filter q ts) ≡ filter p ts → filter p (cond b (t ∷ filter q ts) (filter q ts)) ≡ cond a (t ∷ filter p ts) (filter p ts)
    by true true e f rest = ap (λ b. cond b (t ∷ filter p (filter q ts)) (filter p (filter q ts))) e ∙ ap (λ l. t ∷ l) rest
    by true false e f rest = absurd (true≢false (sym (weaker t e) ∙ f))
    by false true e f rest = ap (λ b. cond b (t ∷ filter p (filter q ts)) (filter p (filter q ts))) e ∙ rest
    by false false e f rest = rest

pub trees_narrowed : (p q : ℕ → Bool) → ((t : ℕ) → p t ≡ true → q t ≡ true) → filter p (trees_where q) ≡ trees_where p
unfolding trees_where
trees_narrowed p q weaker = filtered p q weaker (range_with_len 0 4095)

-- no tree beside the CIST is in the table that maps nothing
pub none_has : (n tree : ℕ) → (tree ≡ 0 → ⊥) → list_any (λ t. t == tree) (replicate n 0) ≡ false
none_has zero tree other = refl
none_has (suc n) tree other = or_from (0 == tree) _ (ne_eqb 0 tree (λ e. other (sym e))) (none_has n tree other)

none_pass : (test : ℕ → Bool) (count a : ℕ) → ((k : ℕ) → a ≤ k → test k ≡ false) → filter test (range_with_len a count) ≡ []
none_pass test zero a fail = refl
none_pass test (suc count) a fail = ap (λ b. cond b (a ∷ filter test (range_with_len (a + 1) count)) (filter test (range_with_len (a + 1) count))) (fail a (omega arith)) ∙ none_pass test count (a + 1) (λ k h. fail k (omega arith))

pub no_mstis : mstis_in no_table ≡ []
unfolding mstis_in no_table
no_mstis = none_pass (has_tree no_table) 4094 1 (λ k h. none_has 4094 k (λ e. omega arith))

-- what is set for a tree where a test tells so
pub priority_told : (o : Option ℕ) → not (unwrap_or o 8 == 8) ≡ true → (n : ℕ) × (o ≡ Some n)
priority_told None h = absurd (true≢false (sym h))
priority_told (Some n) h = (n, refl)

pub cost_told : (o : Option ℕ) → is_some o ≡ true → (n : ℕ) × (o ≡ Some n)
cost_told None h = absurd (true≢false (sym h))
cost_told (Some n) h = (n, refl)

-- where no tree passes none is listed
pub no_trees : (test : ℕ → Bool) → ((k : ℕ) → test k ≡ false) → trees_where test ≡ []
unfolding trees_where
no_trees test fails = none_pass test 4095 0 (λ k _. fails k)

-- nor is there where nothing is set
pub nothing_found : {K X : Type 0} (E : K → Bool) (es : List (K × X)) → length es ≡ 0 → lookup E es ≡ None
nothing_found E [] e = refl
nothing_found E (x ∷ xs) e = absurd (omega arith)
