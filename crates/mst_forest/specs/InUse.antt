-- Which trees the bridges of a view have, under the numbers of records, and a bridge's identifier in one.
use Rattle.std.specs.Prelude.{◌≡◌, ℕ, ◌<◌, ◌==◌, ◌||◌, Bool, false, List, length, slice_index_or, filter}
use Rattle.std.specs.List.{list_any, range_with_len}
use Rattle.mst_ids.specs.Identifiers.{bridge_id}
use Rattle.mst_net.specs.tables.ByTree.{ByTree, priority_in}
use Rattle.mst_net.specs.tables.Tables.{BridgeRow}
use Rattle.mst_view.specs.Trees.{is_among}
use Rattle.mst_view.specs.Viewed.{Viewed}
use Rattle.mst_forest.specs.Seen.{trees_at}

-- a bridge's identifier in a tree
abbrev pub id_in : ByTree → ℕ → List ℕ → BridgeRow → ℕ
id_in set tree name row = bridge_id (priority_in set.priorities name tree) tree row.mac

-- the bridge has the tree: each has the CIST
abbrev pub seen_has : Viewed → ℕ → ℕ → Bool
seen_has v tree bridge = tree == 0 || is_among (trees_at v bridge) tree

-- some bridge has the tree beside the CIST
abbrev pub is_in_use : Viewed → ℕ → Bool
is_in_use v tree = list_any (λ b. is_among (trees_at v b.bridge.number) tree) v.bridges

-- a flag for each tree tells whether it is in use
pub record AreInUse (v : Viewed) (flags : List Bool) : Type 0 where
  pub long : length flags ≡ 4095
  pub used : (tree : ℕ) → tree < 4095 → slice_index_or flags tree false ≡ is_in_use v tree

-- the MSTIs that some bridge has, in rising order
unfoldable pub seen_mstis : Viewed → List ℕ
seen_mstis v = filter (is_in_use v) (range_with_len 1 4094)
