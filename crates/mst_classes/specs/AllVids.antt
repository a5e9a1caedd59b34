-- The VIDs of a network, and numbers for each. The VID at a place, counted from 0, is one more than the place.
use Rattle.std.specs.Prelude.{◌≡◌, ℕ, ◌<◌, List, length, slice_index}
use Rattle.std.specs.List.{range_with_len}

-- the VIDs, in rising order
unfoldable pub all_vids : List ℕ
all_vids = range_with_len 1 4094

-- there is a number for each VID, below this one
pub record NumberEach (numbers : List ℕ) (n : ℕ) : Type 0 where
  pub as_long : length numbers ≡ 4094
  pub below : (i : ℕ) → i < 4094 → slice_index numbers i < n
