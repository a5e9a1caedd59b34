-- The places of numbers among all numbers of a range.
use Rattle.std.proofs.Common.{◌≡◌, ℕ, zero, suc, ◌+◌, ◌-◌, ◌<◌, ◌≤◌, ◌⊎◌, inl, inr, true, cond, not, ◌||◌, nat_eq, eq-eqb, min, List, get_or, length, sym, ap, subst, ◌∙◌, arith}
use Rattle.std.specs.List.{list_any, position_or_len, range_with_len}
use Rattle.std.proofs.lemmas.Bool.{cases_eq, ne_eqb, eqb-true}
use Rattle.std.proofs.lemmas.Grind.{get_or_default_zero}
use Rattle.mst_graph.proofs.Members.{passing}

-- a number's place is how far it is from the first
pub place_from : (n first count : ℕ) → first ≤ n → position_or_len (nat_eq n) (range_with_len first count) ≡ min (n - first) count
place_from n first zero up = omega arith
place_from n first (suc count) up = go (cases_eq n first) (place_from n (first + 1) count)
  where
    go : (n ≡ first) ⊎ (n ≡ first → ⊥) → (first + 1 ≤ n → position_or_len (nat_eq n) (range_with_len (first + 1) count) ≡ min (n - (first + 1)) count)
        → cond (not (nat_eq n first)) (1 + position_or_len (nat_eq n) (range_with_len (first + 1) count)) 0 ≡ min (n - first) (suc count)
    go (inl same) before = ap (λ b. cond (not b) (1 + position_or_len (nat_eq n) (range_with_len (first + 1) count)) 0) (eq-eqb n first same) ∙ omega arith
    go (inr apart) before =
        let e : position_or_len (nat_eq n) (range_with_len (first + 1) count) ≡ min (n - (first + 1)) count = before (omega arith) in
        ap (λ b. cond (not b) (1 + position_or_len (nat_eq n) (range_with_len (first + 1) count)) 0) (ne_eqb n first apart) ∙ omega arith

-- the numbers of a range are there
pub met_from : (n first count : ℕ) → first ≤ n → n < first + count → list_any (nat_eq n) (range_with_len first count) ≡ true
met_from n first zero up below = absurd (omega arith)
met_from n first (suc count) up below = go (cases_eq n first) (met_from n (first + 1) count)
  where
    go : (n ≡ first) ⊎ (n ≡ first → ⊥) → (first + 1 ≤ n → n < first + 1 + count → list_any (nat_eq n) (range_with_len (first + 1) count) ≡ true)
        → nat_eq n first || list_any (nat_eq n) (range_with_len (first + 1) count) ≡ true
    go (inl same) before = ap (λ b. b || list_any (nat_eq n) (range_with_len (first + 1) count)) (eq-eqb n first same)
    go (inr apart) before =
        ap (λ b. b || list_any (nat_eq n) (range_with_len (first + 1) count)) (ne_eqb n first apart) ∙ before (omega arith) (omega arith)

-- a number that is there is not greater than the greatest
pub no_greater : (n greatest : ℕ) (numbers : List ℕ) → ((k : ℕ) → k < length numbers → get_or numbers k 0 ≤ greatest) → list_any (nat_eq n) numbers ≡ true → n ≤ greatest
no_greater n greatest numbers all h =
    let r = passing (nat_eq n) numbers h in
    let at : get_or numbers r.1.0 0 ≡ n = sym (get_or_default_zero numbers r.1.0 r.0 r.1.1) ∙ r.1.2 ∙ sym (eqb-true n r.0 r.2) in
    subst (λ m. m ≤ greatest) at (all r.1.0 r.1.1)
