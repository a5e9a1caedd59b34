-- What is kept for classes of VIDs.
use Rattle.std.specs.Prelude.{ℕ, ◌-◌, List, slice_index, slice_index_or}

-- the count of a VID, by the numbers of VIDs and the counts of the numbers
abbrev pub count_at : List ℕ → List ℕ → ℕ → ℕ
count_at numbers counts vid = slice_index_or counts (slice_index numbers (vid - 1)) 0
