-- Islands as they are filled: a label's count is how many islands there were once its own was made, or 0 where it has
-- none.
use Rattle.std.specs.Prelude.{◌+◌, ◌-◌, ◌==◌, ℕ, Bool, List, [], ◌∷◌, ◌++◌, length, slice_index, slice_set, if◌then◌else◌}
use Rattle.mst_graph.specs.Islands.{Island}

-- an island with no bridge and no LAN
abbrev pub no_members : Island ℕ ℕ
no_members = record { bridges = []; lans = [] }

-- the label has no island yet
abbrev pub is_new : List ℕ → ℕ → Bool
is_new counts label = slice_index counts label == 0

module _ (counts : List ℕ) (islands : List (Island ℕ ℕ)) (label : ℕ) where
  -- the place of its island
  abbrev pub island_place : ℕ
  island_place = if is_new counts label then length islands else slice_index counts label - 1

  -- the islands and the counts once it has one
  abbrev pub islands_with : List (Island ℕ ℕ)
  islands_with = if is_new counts label then islands ++ no_members ∷ [] else islands

  abbrev pub counts_with : List ℕ
  counts_with = if is_new counts label then slice_set counts label (1 + length islands) else counts
