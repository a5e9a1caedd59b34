-- The bridges of a view, each with the trees in which another priority than 8 is set for it.
use Rattle.std.specs.Prelude.{ℕ, ◌==◌, ◌&&◌, not, List, map, Option, Some, None, if◌then◌else◌}
use Rattle.mst_ids.specs.Identifiers.{bridge_id}
use Rattle.mst_vector.specs.declared.msti.MstiBridge.{MstiBridge}
use Rattle.mst_net.specs.tables.ByTree.{ByTree, priority_in}
use Rattle.mst_net.specs.tables.Seen.{bridge_row}
use Rattle.mst_net.specs.tables.TreesSet.{trees_where}
use Rattle.mst_view.specs.Trees.{is_among}
use Rattle.mst_view.specs.Viewed.{Viewed}
use Rattle.mst_view.specs.declared.in_view.BridgeInView.{BridgeInView}
use Rattle.mst_forest.specs.Seen.{trees_at}

-- a bridge and some trees
pub record Ranked : Type 0 where
  pub seen : BridgeInView
  pub trees : List ℕ

-- those in which another priority than 8 is set for it
abbrev pub ranked : ByTree → BridgeInView → Ranked
ranked set b = record { seen = b; trees = trees_where (λ tree. not (priority_in set.priorities b.name tree == 8)) }

abbrev pub ranked_bridges : Viewed → List Ranked
ranked_bridges v = map (ranked v.settings) v.bridges

-- its priority in a tree: what is set, in one of its trees, and else 8
abbrev pub ranked_priority : ByTree → Ranked → ℕ → ℕ
ranked_priority set r tree = if is_among r.trees tree then priority_in set.priorities r.seen.name tree else 8

-- what an MSTI has to know of it with that, where it is on and has the tree
abbrev pub ranked_msti_bridge : Viewed → ℕ → Ranked → Option (ℕ × MstiBridge)
ranked_msti_bridge v tree r =
    let row = bridge_row r.seen.bridge in
    if row.is_on && is_among (trees_at v r.seen.bridge.number) tree then Some (r.seen.bridge.number, record { id = bridge_id (ranked_priority v.settings r tree) tree row.mac }) else None
