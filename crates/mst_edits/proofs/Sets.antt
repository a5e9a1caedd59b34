-- Sets to which the VIDs that pass a test are added, one after another.
use Rattle.std.proofs.Common.{◌≡◌, ◌⊎◌, inl, inr, ℕ, ◌+◌, ◌<◌, ◌≤◌, Bool, true, false, ◌||◌, ◌&&◌, List, nat_lt, refl, sym, ap, ◌∙◌, arith}
use Rattle.std.specs.Prelude.{nat_le}
use Rattle.std.proofs.lemmas.Bool.{cases_lt, cases_eq, lt-ltb, le-ltb, le-leb, lt-leb}
use Rattle.mst_ids.specs.Vids.{has, is_within, set_where, runs_from, IsVidSet}
use Rattle.mst_ids.specs.VidBits.{has-set_where}
use Rattle.mst_ids.proofs.VidSetLemmas.{set_where-same, set_where-has}
use Rattle.mst_edits.proofs.RunLemmas.{set_of_runs, covers}

-- a set is that of the numbers that it has
pub set_of_has : (vids : List Bool) → IsVidSet vids → vids ≡ set_where (has vids)
set_of_has vids is =
    let e = set_of_runs vids is in
    sym e ∙ sym (set_where-has (covers (runs_from 0 vids))) ∙ ap (λ s. set_where (has s)) e

or_none : (s t : Bool) → t ≡ false → (s || t) ≡ s
or_none true t e = refl
or_none false t e = e

module _ (start test : ℕ → Bool) where
  -- those that the set had, and those below a number that pass the test
  abbrev pub with_below : ℕ → ℕ → Bool
  with_below k n = start n || (nat_lt n k && test n)

  below_same : (k n : ℕ) → (n ≡ k → test n ≡ false) → (nat_lt n k && test n) ≡ (nat_lt n (k + 1) && test n)
  below_same k n none = by (cases_lt n k) (cases_eq n k)
    where
      by : (n < k) ⊎ (k ≤ n) → (n ≡ k) ⊎ (n ≡ k → ⊥) → (nat_lt n k && test n) ≡ (nat_lt n (k + 1) && test n)
      by (inl low) other = ap (λ b. b && test n) (lt-ltb n k low ∙ sym (lt-ltb n (k + 1) (omega arith)))
      by (inr high) (inl here) = ap (λ b. b && test n) (le-ltb n k high) ∙ sym (ap (λ b. b && test n) (lt-ltb n (k + 1) (omega (arith, here))) ∙ none here)
      by (inr high) (inr other) = ap (λ b. b && test n) (le-ltb n k high ∙ sym (le-ltb n (k + 1) (omega (arith, other))))

  pub none_yet : (set : List Bool) → test 0 ≡ false → set ≡ set_where start → set ≡ set_where (with_below 1)
  none_yet set out is = is ∙ set_where-same start (with_below 1) (λ n small. sym (or_none (start n) (nat_lt n 1 && test n) (sym (below_same 0 n (λ e. ap test e ∙ out)) ∙ ap (λ b. b && test n) (le-ltb n 0 (omega arith)))))

  pub one_out : (k : ℕ) (set : List Bool) → test k ≡ false → set ≡ set_where (with_below k) → set ≡ set_where (with_below (k + 1))
  one_out k set out is = is ∙ set_where-same (with_below k) (with_below (k + 1)) (λ n small. ap (λ b. start n || b) (below_same k n (λ e. ap test e ∙ out)))

  one_more : (k n : ℕ) → test k ≡ true → (with_below k n || is_within (k, k) n) ≡ with_below (k + 1) n
  one_more k n passes = by (start n) (cases_lt n k) (cases_eq n k)
    where
      by : (s : Bool) → (n < k) ⊎ (k ≤ n) → (n ≡ k) ⊎ (n ≡ k → ⊥) → ((s || (nat_lt n k && test n)) || (nat_le k n && nat_le n k)) ≡ (s || (nat_lt n (k + 1) && test n))
      by true _ _ = refl
      by false (inl low) other =
          ap (λ b. (b && test n) || (nat_le k n && nat_le n k)) (lt-ltb n k low)
          ∙ ap (λ b. test n || (b && nat_le n k)) (lt-leb k n low)
          ∙ or_none (test n) false refl
          ∙ sym (ap (λ b. b && test n) (lt-ltb n (k + 1) (omega arith)))
      by false (inr high) (inl here) =
          ap (λ b. (b && test n) || (nat_le k n && nat_le n k)) (le-ltb n k high)
          ∙ ap (λ b. b && nat_le n k) (le-leb k n high) ∙ le-leb n k (omega (arith, here))
          ∙ sym (ap (λ b. b && test n) (lt-ltb n (k + 1) (omega (arith, here))) ∙ ap test here ∙ passes)
      by false (inr high) (inr other) =
          ap (λ b. (b && test n) || (nat_le k n && nat_le n k)) (le-ltb n k high)
          ∙ ap (λ b. b && nat_le n k) (le-leb k n high) ∙ lt-leb n k (omega (arith, other))
          ∙ sym (ap (λ b. b && test n) (le-ltb n (k + 1) (omega (arith, other))))

  pub one_in : (k : ℕ) (set new : List Bool) → test k ≡ true → set ≡ set_where (with_below k) → new ≡ set_where (λ n. has set n || is_within (k, k) n) → new ≡ set_where (with_below (k + 1))
  one_in k set new passes is inserted =
      inserted ∙ set_where-same (λ n. has set n || is_within (k, k) n) (with_below (k + 1)) (λ n small.
      ap (λ t. t || is_within (k, k) n) (ap (λ s. has s n) is ∙ has-set_where (with_below k) n small) ∙ one_more k n passes)

  -- no number from the last on passes
  pub all_in : (k : ℕ) (set : List Bool) → ((n : ℕ) → k ≤ n → n < 4096 → test n ≡ false) → set ≡ set_where (with_below k) → set ≡ set_where (λ n. start n || test n)
  all_in k set above is = is ∙ set_where-same (with_below k) (λ n. start n || test n) (λ n small. ap (λ b. start n || b) (by n small (cases_lt n k)))
    where
      by : (n : ℕ) → n < 4096 → (n < k) ⊎ (k ≤ n) → (nat_lt n k && test n) ≡ test n
      by n small (inl low) = ap (λ b. b && test n) (lt-ltb n k low)
      by n small (inr high) = ap (λ b. b && test n) (le-ltb n k high) ∙ sym (above n high small)
