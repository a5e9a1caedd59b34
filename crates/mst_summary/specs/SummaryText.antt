-- The first screen that an engineer sees of a network.
use Rattle.std.specs.Prelude.{◌≡◌, ℕ, List, [], ◌∷◌, ◌++◌}
use Rattle.std.specs.List.{flat_map}
use Rattle.mst_rows.specs.Rows.{Row}
use Rattle.mst_tables.specs.Tables.{Net}
use Rattle.mst_slips.specs.Slips.{slip_rows}
use Rattle.mst_vlan.specs.forest.Outcome.{Outcome}
use Rattle.mst_summary.specs.Counts.{counts_of, counts_row, used_trees}
use Rattle.mst_summary.specs.Roots.{root_rows}
use Rattle.mst_summary.specs.Blocked.{blocked, blocked_row}
use Rattle.mst_summary.specs.Vlans.{AreVlanRows}
use Rattle.mst_summary.specs.Carries.{all_carries, full_carries}

-- the rows of a tree: those of its roots, and that of its ports that block
abbrev pub tree_rows : Net → Outcome → ℕ → List Row
tree_rows net o tree = root_rows net o tree ++ blocked_row tree (blocked net o tree) ∷ []

-- of all trees that some bridge has, rising
abbrev pub all_trees_rows : Net → Outcome → List Row
all_trees_rows net o = flat_map (tree_rows net o) (used_trees net)

-- these are the rows: how much there is, the trees, the islands of VIDs, the logical LANs that carry some VIDs or none, and those
-- that carry all, and what is most often a slip
pub record AreSummaryRows (net : Net) (o : Outcome) (rows : List Row) : Type 0 where
  pub vlans : List Row
  pub are_vlans : AreVlanRows net o vlans
  pub is : rows ≡ counts_row (counts_of net) ∷ all_trees_rows net o ++ vlans ++ all_carries net o ++ full_carries net o ++ slip_rows net
