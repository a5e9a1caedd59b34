-- A set with the VIDs of one more run, one after another.
use Rattle.std.proofs.Common.{◌≡◌, ℕ, ◌+◌, ◌≤◌, Bool, ◌||◌, false, List, [], ◌∷◌, ◌++◌, sym, ap, ◌∙◌, arith}
use Rattle.std.specs.Prelude.{◌&&◌, nat_le, nat_lt}
use Rattle.std.proofs.lemmas.Bool.Decides.{nat_tests}
use Rattle.mst_ids.specs.Vids.{has, is_within, set_where}
use Rattle.mst_ids.specs.VidBits.{has-set_where}
use Rattle.mst_ids.proofs.VidSetLemmas.{set_where-same}
use Rattle.mst_edits.specs.Runs.{vids_of}
use Rattle.mst_edits.proofs.Cuts.{covers_append}
use Rattle.mst_edits.proofs.RunLemmas.{covers}

-- the VIDs of some runs, and those from the first on and below the next
abbrev pub with_below : List (ℕ × ℕ) → ℕ → ℕ → ℕ → Bool
with_below runs first next n = covers runs n || (nat_le first n && nat_lt n next)

none_below : (t : Bool) (first n : ℕ) → t ≡ (t || (nat_le first n && nat_lt n first))
none_below t first n = grind (arith, nat_tests)

one_below : (t : Bool) (first next n : ℕ) → first ≤ next → ((t || (nat_le first n && nat_lt n next)) || (nat_le next n && nat_le n next)) ≡ (t || (nat_le first n && nat_lt n (next + 1)))
one_below t first next n order = grind (arith, nat_tests)

all_below : (t : Bool) (first last next n : ℕ) → next ≡ last + 1 → (t || (nat_le first n && nat_lt n next)) ≡ (t || ((nat_le first n && nat_le n last) || false))
all_below t first last next n end = grind (arith, nat_tests)

module _ (runs : List (ℕ × ℕ)) where
  pub none_yet : (first : ℕ) (set : List Bool) → set ≡ vids_of runs → set ≡ set_where (with_below runs first first)
  none_yet first set is = is ∙ set_where-same (covers runs) (with_below runs first first) (λ n small. none_below (covers runs n) first n)

  pub one_more : (first next : ℕ) (set new : List Bool) → first ≤ next → set ≡ set_where (with_below runs first next) → new ≡ set_where (λ n. has set n || is_within (next, next) n)
      → new ≡ set_where (with_below runs first (next + 1))
  one_more first next set new order so_far inserted =
      inserted
      ∙ set_where-same (λ n. has set n || is_within (next, next) n) (with_below runs first (next + 1)) (λ n small.
      ap (λ t. t || is_within (next, next) n) (ap (λ s. has s n) so_far ∙ has-set_where (with_below runs first next) n small) ∙ one_below (covers runs n) first next n order)

  pub all_there : (run : ℕ × ℕ) (next : ℕ) (set : List Bool) → next ≡ run.1 + 1 → set ≡ set_where (with_below runs run.0 next) → set ≡ vids_of (runs ++ run ∷ [])
  all_there run next set end so_far =
      so_far ∙ set_where-same (with_below runs run.0 next) (covers (runs ++ run ∷ [])) (λ n small. all_below (covers runs n) run.0 run.1 next n end ∙ sym (covers_append runs (run ∷ []) n))
