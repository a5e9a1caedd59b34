-- VIDs that tables and sets of VLANs don't tell apart. The VID at a place, counted from 0, is one more than the place.
use Rattle.std.specs.Prelude.{◌≡◌, ℕ, ◌+◌, ◌<◌, Bool, List, length, map, slice_index}
use Rattle.std.specs.List.{AllByRecursion, range_with_len}
use Rattle.mst_ids.specs.Vids.{has}
use Rattle.mst_tables.specs.Table.{tree_in}

-- two VIDs have one tree in each of these tables, and are in the same of these sets
pub record AreAlike (tables : List (List ℕ)) (sets : List (List Bool)) (x y : ℕ) : Type 0 where
  pub same_tree : AllByRecursion (λ table. tree_in table x ≡ tree_in table y) tables
  pub same_sets : AllByRecursion (λ set. has set x ≡ has set y) sets

-- there is a number for each VID, and VIDs of one number are alike
pub record TellApart (tables : List (List ℕ)) (sets : List (List Bool)) (numbers : List ℕ) : Type 0 where
  pub as_long : length numbers ≡ 4094
  pub alike : (i j : ℕ) → i < 4094 → j < 4094 → slice_index numbers i ≡ slice_index numbers j → AreAlike tables sets (i + 1) (j + 1)

-- new numbers for VIDs: those of one number had one number, and have one key
pub record IsSplit {K : Type 0} (key : ℕ → K) (numbers split : List ℕ) : Type 0 where
  pub as_long : length split ≡ 4094
  pub finer : (i j : ℕ) → i < 4094 → j < 4094 → slice_index split i ≡ slice_index split j → (slice_index numbers i ≡ slice_index numbers j) × (key (i + 1) ≡ key (j + 1))

-- new numbers for VIDs: those of one number had one number, and are in the same of these sets
pub record SplitBySets (sets : List (List Bool)) (numbers split : List ℕ) : Type 0 where
  pub as_long : length split ≡ 4094
  pub finer : (i j : ℕ) → i < 4094 → j < 4094 → slice_index split i ≡ slice_index split j → (slice_index numbers i ≡ slice_index numbers j) × AllByRecursion (λ set. has set (i + 1) ≡ has set (j + 1)) sets

-- the number and the key of each VID at a place below this one
abbrev pub keys_to : {K : Type 0} → (ℕ → K) → List ℕ → ℕ → List (ℕ × K)
keys_to key numbers n = map (λ i. (slice_index numbers i, key (i + 1))) (range_with_len 0 n)
