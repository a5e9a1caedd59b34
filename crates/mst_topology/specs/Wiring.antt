-- The topology of a tree on a wiring: the ports of a network, which its trees share.
use Rattle.std.specs.Prelude.{ℕ, ◌&&◌, List, map, is_some, unwrap_or, nat_eq}
use Rattle.std.specs.Map.{lookup}
use Rattle.mst_topology.specs.Places.{in_map}
use Rattle.mst_topology.specs.Topology.{TreePort, Topology}

-- the settings of a port in a tree: those that it has there alone, if it has such, and else those of the wiring
abbrev pub settings_in : {P : Type 0} → List (ℕ × P) → TreePort ℕ ℕ ℕ P → P
settings_in own p = unwrap_or (in_map own p.number) p.settings

-- a port in a tree of these bridges: it takes part where its bridge is among them
abbrev pub port_in : {B P : Type 0} → List (ℕ × B) → List (ℕ × P) → TreePort ℕ ℕ ℕ P → TreePort ℕ ℕ ℕ P
port_in bridges own p = record {
  number = p.number;
  bridge = p.bridge;
  lan = p.lan;
  settings = settings_in own p;
  is_part = p.is_part && is_some (lookup (nat_eq p.bridge) bridges);
  is_restricted = p.is_restricted;
}

-- the tree of these bridges on a wiring
abbrev pub topology_of : {B P : Type 0} → List (TreePort ℕ ℕ ℕ P) → List (ℕ × B) → List (ℕ × P) → Topology ℕ ℕ ℕ B P
topology_of wires bridges own = record { bridges = bridges; ports = map (port_in bridges own) wires }
