-- Tables of VIDs as they are seen, and the range of their trees.
use Rattle.std.proofs.Common.{◌≡◌, ◌≤◌, ℕ, zero, suc, Bool, true, false, List, [], ◌∷◌, map, length, replicate, get_or, refl, arith}
use Rattle.std.specs.Prelude.{◌==◌, if◌then◌else◌}
use Rattle.std.specs.Bool.{beq}
use Rattle.std.specs.List.{range_with_len, list_all, AllByRecursion}
use Rattle.std.specs.Cmp.{booleans_Decides}
use Rattle.std.specs.Cmp.Lexicographic.{pointwise, pointwise_decides}
use Rattle.std.proofs.lemmas.List.FromFn.{length-map-range_with_len}
use Rattle.mst_ids.specs.Vids.{has}
use Rattle.mst_tables.specs.Table.{no_table, tree_in, mapped}
use Rattle.mst_tables.proofs.TableLemmas.{default_tells}

-- flags that are told equal
pub same_flags : (xs ys : List Bool) → pointwise beq xs ys ≡ true → xs ≡ ys
same_flags xs ys h = (pointwise_decides booleans_Decides xs ys).0 h

-- ---- the tree of a VID
pub at_any : {X : Type 0} (n i : ℕ) (x : X) → get_or (replicate n x) i x ≡ x
at_any zero i x = refl
at_any (suc n) zero x = refl
at_any (suc n) (suc i) x = at_any n i x

pub tree_in-no_table : (v : ℕ) → tree_in no_table v ≡ 0
unfolding no_table
tree_in-no_table zero = refl
tree_in-no_table (suc v) = at_any 4094 v 0

pub length-mapped : (vids : List Bool) (tree : ℕ) (table : List ℕ) → length (mapped vids tree table) ≡ 4094
unfolding mapped
length-mapped vids tree table = length-map-range_with_len (λ vid. if has vids vid then tree else tree_in table vid) 1 4094

-- a table of which nothing is kept is the default
pub default_mapped : (vids : List Bool) (tree : ℕ) (table : List ℕ) → list_all (λ t. t == 0) (mapped vids tree table) ≡ true → mapped vids tree table ≡ no_table
default_mapped vids tree table all = (default_tells (mapped vids tree table) (length-mapped vids tree table)).0 all

-- ---- tables whose trees are in their range
module _ {A : Type 0} (P : ℕ → Type 0) (f : A → ℕ) where
  all_made : (l : List A) → ((x : A) → P (f x)) → AllByRecursion P (map f l)
  all_made [] h = tt
  all_made (x ∷ l) h = (h x, all_made l h)

all_at : (P : ℕ → Type 0) (l : List ℕ) (i d : ℕ) → AllByRecursion P l → P d → P (get_or l i d)
all_at P [] i d h default = default
all_at P (x ∷ l) zero d h default = h.0
all_at P (x ∷ l) (suc i) d h default = all_at P l i d h.1 default

all_equal : (P : ℕ → Type 0) (n x : ℕ) → P x → AllByRecursion P (replicate n x)
all_equal P zero x h = tt
all_equal P (suc n) x h = (h, all_equal P n x h)

pub no_table_fits : AllByRecursion (λ tree. tree ≤ 4094) no_table
unfolding no_table
no_table_fits = all_equal (λ tree. tree ≤ 4094) 4094 0 (omega arith)

pub mapped_fits : (vids : List Bool) (tree : ℕ) (table : List ℕ) → tree ≤ 4094 → AllByRecursion (λ tree. tree ≤ 4094) table
    → (length (mapped vids tree table) ≡ 4094) × AllByRecursion (λ tree. tree ≤ 4094) (mapped vids tree table)
unfolding mapped
mapped_fits vids tree table fits old = (
  length-map-range_with_len (λ vid. if has vids vid then tree else tree_in table vid) 1 4094,
  all_made (λ tree. tree ≤ 4094) (λ vid. if has vids vid then tree else tree_in table vid) (range_with_len 1 4094) (λ vid. by (has vids vid) vid),
)
  where
    by : (t : Bool) (vid : ℕ) → (if t then tree else tree_in table vid) ≤ 4094
    by true vid = fits
    by false vid = all_at (λ tree. tree ≤ 4094) (0 ∷ table) vid 0 (omega arith, old) (omega arith)
