-- The MSTIs of a network, by name (802.1Q-2022, 13.11).
use Rattle.std.specs.Prelude.{◌==◌, ◌||◌, ℕ, ◌&&◌, Bool, false, List, max, Option, Some, None, unwrap_or, if◌then◌else◌}
use Rattle.std.specs.Option.{option_map_or}
use Rattle.std.specs.FinMap as fin
use Rattle.mst_ids.specs.Identifiers.{bridge_id, port_id}
use Rattle.mst_ids.specs.Costs.{automatic_cost}
use Rattle.mst_ids.specs.declared.name.PortName.{PortName}
use Rattle.mst_vector.specs.declared.msti.MstiBridge.{MstiBridge}
use Rattle.mst_vector.specs.declared.msti.MstiPort.{MstiPort}
use Rattle.mst_topology.specs.Topology.{Topology}
use Rattle.mst_net.specs.tables.Tables.{Net, BridgeRow}
use Rattle.mst_net.specs.tables.ByTree.{ByTree, by_tree, priority_in, port_priority_in, port_cost_in}
use Rattle.mst_view.specs.View.{LogicalPort}
use Rattle.mst_view.specs.Trees.{mstis_of, is_among}
use Rattle.mst_config.specs.Regions.{same_region}
use Rattle.mst_forest.specs.Sight.{Sight, tree_of}
use Rattle.std.specs.List.{list_any}

-- a bridge: its identifier in the tree
abbrev pub msti_bridge : ByTree → ℕ → List ℕ → BridgeRow → MstiBridge
msti_bridge set tree name row = record { id = bridge_id (priority_in set.priorities name tree) tree row.mac }

-- a logical port: its identifier and its internal cost in the tree, as for the CIST
abbrev pub msti_port : ByTree → ℕ → LogicalPort → MstiPort
msti_port set tree p = record {
  id = port_id (port_priority_in set.port_priorities p.name tree) p.name.number;
  internal = unwrap_or (port_cost_in set.port_costs p.name tree) (automatic_cost (max 1 p.speed));
}

-- the bridge has the tree
abbrev pub has_msti : Net → ℕ → List ℕ → Bool
has_msti net tree name = option_map_or (λ row. is_among (mstis_of net name row) tree) (fin.get net.bridges name) false

-- a bridge has the tree: each has tree 0, the CIST
abbrev pub has_tree : Net → ℕ → List ℕ → Bool
has_tree net tree name = tree == 0 || has_msti net tree name

-- the port's LAN belongs to the region of the port's bridge: its designated port in the CIST is on a bridge of
-- that region
abbrev pub is_internal : Net → (List ℕ → Option PortName) → LogicalPort → Bool
is_internal net designated p = option_map_or (λ q. same_region net q.bridge p.name.bridge) (designated p.lan) false

-- the bridges that are on and have the tree, and their enabled ports whose LAN belongs to their own region, by
-- the designated ports of the CIST. All regions that have the tree stand in the one topology: a LAN belongs to
-- one region, so they never meet
abbrev pub msti_sight : Net → ℕ → (List ℕ → Option PortName) → Sight MstiBridge MstiPort
msti_sight net tree designated = record {
  bridge = λ name row. if row.is_on && has_msti net tree name then Some (msti_bridge (by_tree net) tree name row) else None;
  port = λ p. if p.is_enabled && is_internal net designated p && has_msti net tree p.name.bridge then Some (msti_port (by_tree net) tree p) else None;
}

abbrev pub msti_of : Net → ℕ → (List ℕ → Option PortName) → Topology (List ℕ) (List ℕ) PortName MstiBridge MstiPort
msti_of net tree designated = tree_of net (msti_sight net tree designated)

-- some bridge has the tree beside the CIST
abbrev pub is_had : Net → ℕ → Bool
is_had net tree = list_any (has_msti net tree) (fin.keys net.bridges)
