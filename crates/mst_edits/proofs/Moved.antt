-- The VIDs that one table has in a tree, and those of which another one has another tree.
use Rattle.std.proofs.Common.{◌≡◌, ℕ, suc, zero, ◌-◌, ◌<◌, ◌≤◌, Bool, true, false, ◌&&◌, List, get_or, not, ap, ◌∙◌, arith}
use Rattle.std.specs.Prelude.{◌==◌, nat_le}
use Rattle.std.proofs.lemmas.Bool.{and_from, le-leb, lt-leb}
use Rattle.mst_ids.specs.Vids.{has, is_vid}
use Rattle.mst_ids.specs.VidBits.{has-set_where}
use Rattle.mst_net.specs.tables.Table.{tree_in}
use Rattle.mst_edits.specs.TableLines.{vids_in}

abbrev pub is_moved : List ℕ → List ℕ → ℕ → ℕ → Bool
is_moved before after tree vid = is_vid vid && (tree_in after vid == tree && not (tree_in before vid == tree))

-- a number from 1 on is one more than its place
pub at_place : (table : List ℕ) (number : ℕ) → 1 ≤ number → get_or table (number - 1) 0 ≡ tree_in table number
at_place table zero low = absurd (omega arith)
at_place table (suc n) low = let same : suc n - 1 ≡ n = omega arith in ap (λ k. get_or table k 0) same

-- which numbers are VIDs
pub vid_is : (n : ℕ) → 1 ≤ n → n ≤ 4094 → is_vid n ≡ true
vid_is n low high = and_from (nat_le 1 n) (nat_le n 4094) (le-leb 1 n low) (le-leb n 4094 high)

pub no_vid : (n : ℕ) → 4095 ≤ n → is_vid n ≡ false
no_vid n high = ap (λ b. b && nat_le n 4094) (le-leb 1 n (omega arith)) ∙ lt-leb n 4094 (omega arith)

pub moved_is : (before after : List ℕ) (tree n : ℕ) → 1 ≤ n → n ≤ 4094 → is_moved before after tree n ≡ (tree_in after n == tree && not (tree_in before n == tree))
moved_is before after tree n low high = ap (λ b. b && (tree_in after n == tree && not (tree_in before n == tree))) (vid_is n low high)

pub none_moved : (before after : List ℕ) (tree n : ℕ) → 4095 ≤ n → is_moved before after tree n ≡ false
none_moved before after tree n high = ap (λ b. b && (tree_in after n == tree && not (tree_in before n == tree))) (no_vid n high)

pub none_in : (table : List ℕ) (tree n : ℕ) → 4095 ≤ n → n < 4096 → has (vids_in table tree) n ≡ false
none_in table tree n high small = has-set_where (λ v. is_vid v && tree_in table v == tree) n small ∙ ap (λ b. b && tree_in table n == tree) (no_vid n high)

pub zero_out : (table : List ℕ) (tree : ℕ) → has (vids_in table tree) 0 ≡ false
zero_out table tree = has-set_where (λ v. is_vid v && tree_in table v == tree) 0 (omega arith)
