-- What classes of VIDs are marked with.
use Rattle.std.specs.Prelude.{ℕ, ◌-◌, Bool, false, List, slice_index, slice_index_or}

-- the flag of a VID's class
abbrev pub flag_at : List ℕ → List Bool → ℕ → Bool
flag_at numbers flags vid = slice_index_or flags (slice_index numbers (vid - 1)) false
