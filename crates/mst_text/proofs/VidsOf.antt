-- The VIDs that a table maps to a tree, one after another.
use Rattle.std.proofs.Common.{◌≡◌, ◌≢◌, ℕ, ◌+◌, ◌≤◌, ◌==◌, ◌&&◌, ◌||◌, Bool, true, false, List, sym, ap, ◌∙◌, ⊎_elim, arith}
use Rattle.std.specs.Prelude.{nat_le, nat_lt}
use Rattle.std.proofs.lemmas.Bool.Decides.{nat_tests}
use Rattle.std.proofs.lemmas.Bool.{cases_eq}
use Rattle.mst_ids.specs.Vids.{set_where, has, is_within, is_vid}
use Rattle.mst_ids.specs.VidBits.{has-set_where}
use Rattle.mst_ids.proofs.VidSetLemmas.{set_where-same}
use Rattle.mst_tables.specs.Table.{tree_in}
use Rattle.mst_text.specs.ConfigurationText.{vids_in}

module _ (table : List ℕ) (tree : ℕ) where
  -- those below a number
  abbrev pub below : ℕ → ℕ → Bool
  below number n = (nat_le 1 n && nat_lt n number) && tree_in table n == tree

  none : (n : ℕ) (t : Bool) → ((nat_le 1 n && nat_lt n 1) && t) ≡ false
  none n t = grind (arith, nat_tests)

  pub none_below : set_where (λ _. false) ≡ set_where (below 1)
  none_below = set_where-same (λ _. false) (below 1) (λ n _. sym (none n (tree_in table n == tree)))

  -- one more is mapped to the tree
  taken : (number n : ℕ) → 1 ≤ number → (tree_in table number == tree) ≡ true → (below number n || is_within (number, number) n) ≡ below (number + 1) n
  taken number n least maps = ⊎_elim here elsewhere (cases_eq n number)
    where
      at : (k : ℕ) (t : Bool) → 1 ≤ k → t ≡ true → (((nat_le 1 k && nat_lt k k) && t) || (nat_le k k && nat_le k k)) ≡ ((nat_le 1 k && nat_lt k (k + 1)) && t)
      at k t l e = grind (arith, nat_tests)

      not_at : (k m : ℕ) (t : Bool) → m ≢ k → (((nat_le 1 m && nat_lt m k) && t) || (nat_le k m && nat_le m k)) ≡ ((nat_le 1 m && nat_lt m (k + 1)) && t)
      not_at k m t other = grind (arith, nat_tests)

      here : n ≡ number → (below number n || is_within (number, number) n) ≡ below (number + 1) n
      here e = ap (λ m. below number m || is_within (number, number) m) e ∙ at number (tree_in table number == tree) least maps ∙ ap (below (number + 1)) (sym e)

      elsewhere : n ≢ number → (below number n || is_within (number, number) n) ≡ below (number + 1) n
      elsewhere other = not_at number n (tree_in table n == tree) other

  pub one_taken : (vids : List Bool) (number : ℕ) → vids ≡ set_where (below number) → 1 ≤ number → (tree_in table number == tree) ≡ true
      → set_where (λ n. has vids n || is_within (number, number) n) ≡ set_where (below (number + 1))
  one_taken vids number is least maps = set_where-same (λ n. has vids n || is_within (number, number) n) (below (number + 1)) (λ n small.
      ap (λ b. b || is_within (number, number) n) (ap (λ v. has v n) is ∙ has-set_where (below number) n small) ∙ taken number n least maps)

  -- one more is not
  passed : (number n : ℕ) → (tree_in table number == tree) ≡ false → below number n ≡ below (number + 1) n
  passed number n other_tree = ⊎_elim here elsewhere (cases_eq n number)
    where
      at : (k : ℕ) (t : Bool) → t ≡ false → ((nat_le 1 k && nat_lt k k) && t) ≡ ((nat_le 1 k && nat_lt k (k + 1)) && t)
      at k t e = grind (arith, nat_tests)

      not_at : (k m : ℕ) (t : Bool) → m ≢ k → ((nat_le 1 m && nat_lt m k) && t) ≡ ((nat_le 1 m && nat_lt m (k + 1)) && t)
      not_at k m t other = grind (arith, nat_tests)

      here : n ≡ number → below number n ≡ below (number + 1) n
      here e = ap (below number) e ∙ at number (tree_in table number == tree) other_tree ∙ ap (below (number + 1)) (sym e)

      elsewhere : n ≢ number → below number n ≡ below (number + 1) n
      elsewhere other = not_at number n (tree_in table n == tree) other

  pub one_passed : (number : ℕ) → (tree_in table number == tree) ≡ false → set_where (below number) ≡ set_where (below (number + 1))
  one_passed number other = set_where-same (below number) (below (number + 1)) (λ n _. passed number n other)

  all : (n : ℕ) (t : Bool) → ((nat_le 1 n && nat_lt n 4095) && t) ≡ ((nat_le 1 n && nat_le n 4094) && t)
  all n t = grind (arith, nat_tests)

  pub all_below : set_where (below 4095) ≡ vids_in table tree
  all_below = set_where-same (below 4095) (λ n. is_vid n && tree_in table n == tree) (λ n _. all n (tree_in table n == tree))
