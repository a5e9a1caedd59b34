-- Numbers of VIDs, while sets split them. The VID at a place, counted from 0, is one more than the place.
use Rattle.std.specs.Prelude.{◌≡◌, ℕ, ◌+◌, ◌<◌, ◌≤◌, Bool, false, List, length, set, slice_index}
use Rattle.mst_ids.specs.Vids.{has}
use Rattle.mst_classes.specs.declared.splitting.Splitting.{Splitting}

-- ---- a VID gets a number
-- another number was given for its own since the start
pub record IsKnown (place start : ℕ) (old new : Splitting) : Type 0 where
  pub since : start ≤ slice_index old.given.items (slice_index old.numbers.items place)
  pub numbers : new.numbers.items ≡ set old.numbers.items place (slice_index old.given.items (slice_index old.numbers.items place))
  pub given : new.given.items ≡ old.given.items
  pub next : new.next ≡ old.next

-- none was given, and it gets the next
pub record IsFresh (place start : ℕ) (old new : Splitting) : Type 0 where
  pub before : slice_index old.given.items (slice_index old.numbers.items place) < start
  pub numbers : new.numbers.items ≡ set old.numbers.items place old.next
  pub given : new.given.items ≡ set old.given.items (slice_index old.numbers.items place) old.next
  pub next : new.next ≡ old.next + 1

-- ---- a set splits
-- all numbers are below the next, and so are those that were given
pub record IsReady (s : Splitting) : Type 0 where
  pub as_long : length s.numbers.items ≡ 4094
  pub room : length s.given.items ≡ 16384
  pub some : 0 < s.next
  pub few : s.next ≤ 16384
  pub below : (i : ℕ) → slice_index s.numbers.items i < s.next
  pub given_below : (n : ℕ) → slice_index s.given.items n < s.next

-- there is room for a number for each VID of a set, and the numbers of the other VIDs are below the next
pub record IsReadyFor (vids : List Bool) (s : Splitting) : Type 0 where
  pub as_long : length s.numbers.items ≡ 4094
  pub room : length s.given.items ≡ 16384
  pub some : 0 < s.next
  pub few : s.next ≤ 12290
  pub within : (i : ℕ) → slice_index s.numbers.items i < 16384
  pub others_below : (i : ℕ) → i < 4094 → has vids (i + 1) ≡ false → slice_index s.numbers.items i < s.next
  pub given_below : (n : ℕ) → slice_index s.given.items n < s.next

-- each VID has a number of its own
abbrev pub AreApart : List ℕ → Type 0
AreApart numbers = (i j : ℕ) → i < 4094 → j < 4094 → slice_index numbers i ≡ slice_index numbers j → i ≡ j
