-- The CIST of a network, by name (802.1Q-2022, 13.10).
use Rattle.std.specs.Prelude.{ℕ, List, max, Some, None, unwrap_or, if◌then◌else◌}
use Rattle.mst_ids.specs.Identifiers.{bridge_id, port_id}
use Rattle.mst_ids.specs.Costs.{automatic_cost}
use Rattle.mst_ids.specs.declared.name.PortName.{PortName}
use Rattle.mst_vector.specs.declared.cist.CistBridge.{CistBridge}
use Rattle.mst_vector.specs.declared.cist.CistPort.{CistPort}
use Rattle.mst_topology.specs.Topology.{Topology}
use Rattle.mst_net.specs.tables.Tables.{Net, BridgeRow}
use Rattle.mst_net.specs.tables.ByTree.{ByTree, by_tree, priority_in, port_priority_in, port_cost_in}
use Rattle.mst_view.specs.View.{LogicalPort}
use Rattle.mst_config.specs.Regions.{region_of}
use Rattle.mst_forest.specs.Sight.{Sight, tree_of}

-- a bridge of this region: its identifier, its region and its kind
abbrev pub cist_bridge : ByTree → ℕ → List ℕ → BridgeRow → CistBridge
cist_bridge set region name row = record { id = bridge_id (priority_in set.priorities name 0) 0 row.mac; region = region; is_rstp = row.is_rstp }

-- a logical port: its identifier and its costs. A cost that isn't set goes by the speed of the logical LAN.
-- Where no member is up there is no speed: the port then takes no part, and no text has its costs
abbrev pub cist_port : ByTree → LogicalPort → CistPort
cist_port set p = record {
  id = port_id (port_priority_in set.port_priorities p.name 0) p.name.number;
  external = unwrap_or p.settings.external (automatic_cost (max 1 p.speed));
  internal = unwrap_or (port_cost_in set.port_costs p.name 0) (automatic_cost (max 1 p.speed));
}

-- the bridges that are on, and the ports that are enabled
abbrev pub cist_sight : Net → Sight CistBridge CistPort
cist_sight net = record {
  bridge = λ name row. if row.is_on then Some (cist_bridge (by_tree net) (region_of net name) name row) else None;
  port = λ p. if p.is_enabled then Some (cist_port (by_tree net) p) else None;
}

abbrev pub cist_of : Net → Topology (List ℕ) (List ℕ) PortName CistBridge CistPort
cist_of net = tree_of net (cist_sight net)
