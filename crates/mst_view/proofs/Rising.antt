-- Lists of trees in rising order.
use Rattle.std.proofs.Common.{◌≡◌, ◌≢◌, ◌==◌, ◌⊎◌, inl, inr, ℕ, ◌<◌, ◌≤◌, Bool, true, false, cond, List, [], length, get_or, Result, Ok, Err, is_ok, sym, arith}
use Rattle.std.specs.List.{filter, range_with_len}
use Rattle.std.specs.List.Sorted.{IsNonDecreasingBy, IsBinarySearchResult}
use Rattle.std.specs.Ordering.{nat_cmp}
use Rattle.std.proofs.lemmas.List.Sorted.{IsNonDecreasingBy-short, searched}
use Rattle.std.proofs.lemmas.List.Kept.{IsNonDecreasingBy-filter}
use Rattle.std.proofs.lemmas.List.FromFn.{length-range_with_len, get_or-range_with_len}
use Rattle.std.proofs.lemmas.List.Folds.{list_any_at, list_any_none}
use Rattle.std.proofs.lemmas.List.Elements.{All-from_get_or}
use Rattle.std.proofs.lemmas.Bool.{eq-eqb, cases_lt}
use Rattle.std.proofs.lemmas.Bool.Decides.{eqb_tells}
use Rattle.mst_tables.specs.Table.{has_tree, mstis_in}
use Rattle.mst_tables.specs.After.{table_of}
use Rattle.mst_tables.specs.Tables.{Net, BridgeRow}
use Rattle.mst_view.specs.Trees.{mstis_of, is_among}

range_rises : (a n : ℕ) → IsNonDecreasingBy (λ t. t) (range_with_len a n)
range_rises a n i j d order below =
    let small : j < n = rw (sym (length-range_with_len a n)) below in
    rw (get_or-range_with_len a n i d (omega (arith, order, small)), get_or-range_with_len a n j d small) (omega (arith, order))

pub mstis_rise : (net : Net) (name : List ℕ) (row : BridgeRow) → IsNonDecreasingBy (λ t. t) (mstis_of net name row)
unfolding mstis_in
mstis_rise net name row = by row.is_rstp
  where
    by : (is : Bool) → IsNonDecreasingBy (λ t. t) (cond is [] (mstis_in (table_of net name)))
    by true = IsNonDecreasingBy-short (λ t. t) [] (omega arith)
    by false = IsNonDecreasingBy-filter (λ t. t) (has_tree (table_of net name)) (range_with_len 1 4094) (range_rises 1 4094)

other_tree : (a b : ℕ) → a ≢ b → (a == b) ≡ false
other_tree a b apart = by (eqb_tells a b)
  where
    by : ((a == b) ≡ true) × (a ≡ b) ⊎ ((a == b) ≡ false) × (a ≢ b) → (a == b) ≡ false
    by (inl same) = absurd (apart same.1)
    by (inr told) = told.0

-- a search by halves finds a tree just where it is among them
pub found_by_halves : (trees : List ℕ) (tree : ℕ) (r : Result ℕ ℕ) → IsNonDecreasingBy (λ t. t) trees → IsBinarySearchResult (λ t. nat_cmp t tree) trees r → is_ok r ≡ is_among trees tree
found_by_halves trees tree (Ok i) rises result =
    let at = searched trees tree (Ok i) result (λ i j. rises i j 0) in
    sym (list_any_at (λ t. t == tree) trees i 0 at.0 (eq-eqb (get_or trees i 0) tree at.1))
found_by_halves trees tree (Err i) rises result =
    let apart = searched trees tree (Err i) result (λ i j. rises i j 0) in
    sym (list_any_none (λ t. t == tree) trees (All-from_get_or (λ t. (t == tree) ≡ false) trees 0 (λ k below. other k apart.1 apart.2 below (cases_lt k i))))
  where
    other : (k : ℕ) → ((k : ℕ) → k < i → get_or trees k 0 < tree) → ((k : ℕ) → i ≤ k → k < length trees → tree < get_or trees k 0) → k < length trees → (k < i) ⊎ (i ≤ k) → (get_or trees k 0 == tree) ≡ false
    other k before after below (inl low) = let l = before k low in other_tree (get_or trees k 0) tree (λ e. omega (arith, l, e))
    other k before after below (inr high) = let l = after k high below in other_tree (get_or trees k 0) tree (λ e. omega (arith, l, e))
