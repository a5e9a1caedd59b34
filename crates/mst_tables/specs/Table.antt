-- Which tree each VID is mapped to: the trees of the VIDs 1 to 4094 in rising order, each as its MSTID, where
-- 0 is the CIST.
use Rattle.std.specs.Prelude.{ℕ, Bool, ◌==◌, List, ◌∷◌, map, replicate, count_by, slice_index_or, if◌then◌else◌}
use Rattle.std.specs.List.{range_with_len, list_any, filter}
use Rattle.mst_ids.specs.Vids.{has}

-- every VID is in the CIST
unfoldable pub no_table : List ℕ
no_table = replicate 4094 0

-- the tree of a VID; what is no VID has 0
abbrev pub tree_in : List ℕ → ℕ → ℕ
tree_in table vid = slice_index_or (0 ∷ table) vid 0

-- the VIDs of a set are mapped to a tree, and the others stay where they are
unfoldable pub mapped : List Bool → ℕ → List ℕ → List ℕ
mapped vids tree table = map (λ vid. if has vids vid then tree else tree_in table vid) (range_with_len 1 4094)

-- some VID is mapped to the tree
abbrev pub has_tree : List ℕ → ℕ → Bool
has_tree table tree = list_any (λ t. t == tree) table

-- the trees 1 to 4094 that some VID is mapped to, in rising order
unfoldable pub mstis_in : List ℕ → List ℕ
mstis_in table = filter (has_tree table) (range_with_len 1 4094)

-- how many of the trees 1 to 4094 some VID is mapped to
unfoldable pub tree_count : List ℕ → ℕ
tree_count table = count_by (has_tree table) (range_with_len 1 4094)
