-- The numbers from 1 on that pass a test, one after another.
use Rattle.std.proofs.Common.{◌≡◌, ℕ, suc, zero, ◌+◌, Bool, true, false, cond, List, [], ◌∷◌, ◌++◌, ap, ◌∙◌, arith}
use Rattle.std.specs.List.{filter, range_with_len}
use Rattle.std.proofs.lemmas.List.{append-nil}
use Rattle.std.proofs.lemmas.List.Elements.{filter-append}
use Rattle.mst_tables.specs.Table.{has_tree, mstis_in}

-- one more number
range_up : (a n : ℕ) → range_with_len a (suc n) ≡ range_with_len a n ++ (a + n) ∷ []
range_up a zero = let same : a ≡ a + 0 = omega arith in ap (λ x. x ∷ []) same
range_up a (suc n) =
    let same : a + 1 + n ≡ a + suc n = omega arith in
    ap (λ l. a ∷ l) (range_up (a + 1) n ∙ ap (λ x. range_with_len (a + 1) n ++ x ∷ []) same)

pub range_more : (a n : ℕ) → range_with_len a (n + 1) ≡ range_with_len a n ++ (a + n) ∷ []
range_more a n = let same : n + 1 ≡ suc n = omega arith in ap (range_with_len a) same ∙ range_up a n

passing_more : (test : ℕ → Bool) (n : ℕ) → filter test (range_with_len 1 (n + 1)) ≡ filter test (range_with_len 1 n) ++ cond (test (1 + n)) ((1 + n) ∷ []) []
passing_more test n = ap (filter test) (range_more 1 n) ∙ filter-append test (range_with_len 1 n) ((1 + n) ∷ [])

pub one_passes : (test : ℕ → Bool) (n number : ℕ) → number ≡ n + 1 → test number ≡ true → filter test (range_with_len 1 (n + 1)) ≡ filter test (range_with_len 1 n) ++ number ∷ []
one_passes test n number is passes =
    let same : 1 + n ≡ number = omega arith in
    passing_more test n ∙ ap (λ m. filter test (range_with_len 1 n) ++ cond (test m) (m ∷ []) []) same
    ∙ ap (λ b. filter test (range_with_len 1 n) ++ cond b (number ∷ []) []) passes

pub one_fails : (test : ℕ → Bool) (n number : ℕ) → number ≡ n + 1 → test number ≡ false → filter test (range_with_len 1 (n + 1)) ≡ filter test (range_with_len 1 n)
one_fails test n number is fails =
    let same : 1 + n ≡ number = omega arith in
    passing_more test n ∙ ap (λ m. filter test (range_with_len 1 n) ++ cond (test m) (m ∷ []) []) same
    ∙ ap (λ b. filter test (range_with_len 1 n) ++ cond b (number ∷ []) []) fails ∙ append-nil (filter test (range_with_len 1 n))

-- up to 4094 they are those of a table
pub all_mstis : (table : List ℕ) (n : ℕ) → n ≡ 4094 → filter (has_tree table) (range_with_len 1 n) ≡ mstis_in table
unfolding mstis_in
all_mstis table n e = ap (λ m. filter (has_tree table) (range_with_len 1 m)) e
