-- What one tree takes of a network, by name.
use Rattle.std.specs.Prelude.{ℕ, true, List, Option, filter_map}
use Rattle.std.specs.Option.{option_map}
use Rattle.std.specs.FinMap as fin
use Rattle.mst_ids.specs.declared.name.PortName.{PortName}
use Rattle.mst_topology.specs.Topology.{TreePort, Topology}
use Rattle.mst_net.specs.tables.Tables.{Net, BridgeRow}
use Rattle.mst_view.specs.View.{LogicalPort, view_ports}

-- the settings of a bridge and of a logical port, where it is in the tree
pub record Sight (B P : Type 0) : Type 0 where
  pub bridge : List ℕ → BridgeRow → Option B
  pub port : LogicalPort → Option P

-- the bridge under its name, and the port under its own, on the bridge and the logical LAN of these names
abbrev pub named_bridge : {B P : Type 0} → Sight B P → List ℕ × BridgeRow → Option (List ℕ × B)
named_bridge s e = option_map (λ b. (e.0, b)) (s.bridge e.0 e.1)

abbrev pub tree_port : {P : Type 0} → LogicalPort → P → TreePort (List ℕ) (List ℕ) PortName P
tree_port p settings = record { number = p.name; bridge = p.name.bridge; lan = p.lan; settings = settings; is_part = true; is_restricted = p.settings.is_restricted }

abbrev pub named_port : {B P : Type 0} → Sight B P → LogicalPort → Option (TreePort (List ℕ) (List ℕ) PortName P)
named_port s p = option_map (tree_port p) (s.port p)

-- the tree: the bridges that are in it, in byte order of names, and the logical ports, by bridge and number
abbrev pub tree_of : {B P : Type 0} → Net → Sight B P → Topology (List ℕ) (List ℕ) PortName B P
tree_of net s = record {
  bridges = filter_map (named_bridge s) (fin.entries net.bridges);
  ports = filter_map (named_port s) (view_ports net);
}
