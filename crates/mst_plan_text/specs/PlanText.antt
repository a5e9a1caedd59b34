-- The rows of a plan, by name.
use Rattle.std.specs.Prelude.{◌≡◌, ℕ, List, [], ◌∷◌, ◌++◌, filter}
use Rattle.std.specs.List.{flat_map, range_with_len}
use Rattle.mst_ids.specs.Vids.{runs_from, set_where}
use Rattle.mst_graph.specs.Groups.{AreGroups}
use Rattle.mst_graph.specs.Islands.{Island}
use Rattle.mst_tables.specs.Tables.{Net}
use Rattle.mst_view.specs.Trees.{is_among}
use Rattle.mst_rows.specs.Rows.{Row}
use Rattle.mst_text.specs.vlan.classes.AllVids.{all_vids}
use Rattle.mst_vlan.specs.forest.Outcome.{Outcome}
use Rattle.mst_text.specs.vlan.Reach.{AreIslandsOf}
use Rattle.mst_text.specs.TreeText.{tree_rows}
use Rattle.mst_text.specs.VlanRows.{heading}
use Rattle.mst_text.specs.VlanText.{body_rows, ports_of_vid}
use Rattle.mst_vlan.specs.forest.Msti.{is_had}

-- ---- trees

-- the MSTIs that some bridge has, in rising order
unfoldable pub mstis : Net → List ℕ
mstis net = filter (is_had net) (range_with_len 1 4094)

-- the rows of the CIST and of these MSTIs
abbrev pub trees_rows : Net → Outcome → List Row
trees_rows net o = flat_map (tree_rows net o) (0 ∷ mstis net)

-- ---- groups of VIDs
-- the islands of a VID, by name
abbrev pub Islands : Type 0
Islands = List (Island (List ℕ) (List ℕ))

-- these are the islands of each VID
abbrev pub AreIslandsOfEach : Net → Outcome → (ℕ → Islands) → Type 0
AreIslandsOfEach net o islands = (vid : ℕ) → AreIslandsOf net o vid (islands vid)

-- two VIDs have equal bodies: the same active ports, and the same islands
abbrev pub HaveOneBody : Net → Outcome → (ℕ → Islands) → ℕ → ℕ → Type 0
HaveOneBody net o islands x y = (ports_of_vid net o x ≡ ports_of_vid net o y) × (islands x ≡ islands y)

-- the VIDs of a group, as the longest runs of a set
abbrev pub runs_of_group : List ℕ → List (ℕ × ℕ)
runs_of_group group = runs_from 0 (set_where (is_among group))

-- a group: the heading of its VIDs, and the body that they have
abbrev pub group_rows : Net → Outcome → (ℕ → Islands) → List ℕ → List Row
group_rows net o islands [] = []
group_rows net o islands (vid ∷ others) = let runs = runs_of_group (vid ∷ others) in heading runs ∷ body_rows net o vid runs (islands vid)

-- these are the rows of the groups of VIDs of equal bodies, by least VID
pub record AreVidsRows (net : Net) (o : Outcome) (rows : List Row) : Type 0 where
  pub islands : ℕ → Islands
  pub are_islands : AreIslandsOfEach net o islands
  pub groups : List (List ℕ)
  pub are_groups : AreGroups (HaveOneBody net o islands) all_vids groups
  pub is : rows ≡ flat_map (group_rows net o islands) groups

-- these are the rows of the plan: those of its trees, and those of the groups of VIDs
abbrev pub ArePlanRows : Net → Outcome → List Row → Type 0
ArePlanRows net o rows = (vids : List Row) × AreVidsRows net o vids × (rows ≡ trees_rows net o ++ vids)
