-- The VIDs that pass a test, one after another.
use Rattle.std.proofs.Common.{◌≡◌, ◌≢◌, ℕ, ◌+◌, ◌≤◌, ◌&&◌, ◌||◌, Bool, true, false, List, refl, sym, ap, ◌∙◌, ⊎_elim, arith}
use Rattle.std.specs.Prelude.{nat_le, nat_lt}
use Rattle.std.proofs.lemmas.Bool.Decides.{nat_tests}
use Rattle.std.proofs.lemmas.Bool.{cases_eq}
use Rattle.mst_ids.specs.Vids.{set_where, has, is_within, is_vid}
use Rattle.mst_ids.specs.VidBits.{has-set_where}
use Rattle.mst_ids.proofs.VidSetLemmas.{set_where-same}
use Rattle.mst_slips.specs.Vids.{vids_that}

or_false : (b : Bool) → (b || false) ≡ b
or_false true = refl
or_false false = refl

module _ (test : ℕ → Bool) where
  -- those below a number
  abbrev pub below : ℕ → ℕ → Bool
  below k n = is_vid n && (nat_lt n k && test n)

  -- a number more, whether it passes or not
  itself : (k : ℕ) (t : Bool) → 1 ≤ k → k ≤ 4094 → ((is_vid k && (nat_lt k k && t)) || (t && (nat_le k k && nat_le k k))) ≡ (is_vid k && (nat_lt k (k + 1) && t))
  itself k t low high = grind (arith, nat_tests)

  another : (k n : ℕ) (t u : Bool) → n ≢ k → ((is_vid n && (nat_lt n k && u)) || (t && (nat_le k n && nat_le n k))) ≡ (is_vid n && (nat_lt n (k + 1) && u))
  another k n t u other = grind (arith, nat_tests)

  more : (k n : ℕ) (t : Bool) → 1 ≤ k → k ≤ 4094 → test k ≡ t → (below k n || (t && is_within (k, k) n)) ≡ below (k + 1) n
  more k n t low high is = ⊎_elim here elsewhere (cases_eq n k)
    where
      here : n ≡ k → (below k n || (t && is_within (k, k) n)) ≡ below (k + 1) n
      here e = (λ i. below k (e i) || (sym is i && is_within (k, k) (e i))) ∙ itself k (test k) low high ∙ ap (below (k + 1)) (sym e)

      elsewhere : n ≢ k → (below k n || (t && is_within (k, k) n)) ≡ below (k + 1) n
      elsewhere other = another k n t (test n) other

  pub one_in : (k : ℕ) (set : List Bool) → 1 ≤ k → k ≤ 4094 → test k ≡ true → set ≡ set_where (below k) → set_where (λ n. has set n || is_within (k, k) n) ≡ set_where (below (k + 1))
  one_in k set low high passes is = set_where-same (λ n. has set n || is_within (k, k) n) (below (k + 1)) (λ n small.
      ap (λ b. b || is_within (k, k) n) (ap (λ s. has s n) is ∙ has-set_where (below k) n small) ∙ more k n true low high passes)

  pub one_out : (k : ℕ) → 1 ≤ k → k ≤ 4094 → test k ≡ false → set_where (below k) ≡ set_where (below (k + 1))
  one_out k low high fails = set_where-same (below k) (below (k + 1)) (λ n _. sym (or_false (below k n)) ∙ more k n false low high fails)

  -- none is below 1, and all are below 4095
  none : (n : ℕ) (t : Bool) → (is_vid n && (nat_lt n 1 && t)) ≡ false
  none n t = grind (arith, nat_tests)

  pub none_below : set_where (λ _. false) ≡ set_where (below 1)
  none_below = set_where-same (λ _. false) (below 1) (λ n _. sym (none n (test n)))

  all : (n : ℕ) (t : Bool) → (is_vid n && (nat_lt n 4095 && t)) ≡ (is_vid n && t)
  all n t = grind (arith, nat_tests)

  pub all_below : set_where (below 4095) ≡ vids_that test
  all_below = set_where-same (below 4095) (λ n. is_vid n && test n) (λ n _. all n (test n))
