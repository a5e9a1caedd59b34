-- Sets of VIDs.
use Rattle.std.specs.Prelude.{ℕ, ◌&&◌, not, Bool, List}
use Rattle.mst_ids.specs.Vids.{has, is_vid, set_where}

-- the VIDs that pass a test
abbrev pub vids_that : (ℕ → Bool) → List Bool
vids_that test = set_where (λ vid. is_vid vid && test vid)

-- the VIDs that are in the one set and not in the other
abbrev pub vids_without : List Bool → List Bool → List Bool
vids_without vids others = vids_that (λ vid. has vids vid && not (has others vid))
