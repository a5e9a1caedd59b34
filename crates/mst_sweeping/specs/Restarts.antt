-- Logical ports that start anew in a step, so that they may discard until they have agreed again.
use Rattle.std.specs.Prelude.{◌≡◌, ◌≢◌, ℕ, ◌==◌, ◌&&◌, ◌||◌, not, Bool, true, false, List, Option, Some, map, filter, filter_map, nat_eq}
use Rattle.std.specs.Cmp.Lexicographic.{pointwise}
use Rattle.std.specs.FinMap as fin
use Rattle.std.specs.List.{Contains, find, list_any}
use Rattle.std.specs.Option.{option_and_then, option_map, option_map_or}
use Rattle.mst_ids.specs.declared.name.PortName.{PortName}
use Rattle.mst_net.specs.tables.After.{table_of}
use Rattle.mst_net.specs.tables.Tables.{Net, BridgeRow, port_eq}
use Rattle.mst_view.specs.Aggregation.{same_name}
use Rattle.mst_view.specs.View.{LogicalPort, view_ports, bridge_names}
use Rattle.mst_sweep.specs.facts.Told.{same_told}

-- ---- bridges
-- a bridge stays what it was: it has its MAC address, its kind and, of kind mstp, its MST configuration, which is a name, a revision
-- and a table
abbrev pub is_as_it_was : Net → Net → List ℕ → BridgeRow → BridgeRow → Bool
is_as_it_was a b name old new = old.mac == new.mac && same_told old new && (old.is_rstp || pointwise nat_eq (table_of a name) (table_of b name))

-- it is in both networks and doesn't
abbrev pub starts_anew : Net → Net → List ℕ → Bool
starts_anew a b name = option_map_or (λ old. option_map_or (λ new. not (is_as_it_was a b name old new)) (fin.get b.bridges name) false) (fin.get a.bridges name) false

-- the bridges that start anew
abbrev pub bridges_anew : Net → Net → List (List ℕ)
bridges_anew a b = filter (starts_anew a b) (bridge_names a)

-- ---- plugs
-- the LAN that a port itself is plugged into, whatever LAN it counts as one with
abbrev pub own_lan : Net → PortName → Option (List ℕ)
own_lan net port = option_and_then (λ row. row.lan) (fin.get net.ports port)

-- a port is plugged in both networks, into LANs of different names
abbrev pub is_replugged : Net → Net → PortName → Bool
is_replugged a b port = option_map_or (λ old. option_map_or (λ new. not (same_name old new)) (own_lan b port) false) (own_lan a port) false

-- ---- logical ports
-- a logical port, before and afterwards, is enabled in both, and its bridge starts anew or the port itself is plugged into another LAN
abbrev pub port_anew : Net → Net → LogicalPort → LogicalPort → Bool
port_anew a b old new = old.is_enabled && new.is_enabled && (list_any (λ bridge. same_name bridge old.name.bridge) (bridges_anew a b) || is_replugged a b old.name)

-- so is a logical port with the one of its bridge and number afterwards, if there is one
abbrev pub restarts : Net → Net → LogicalPort → Bool
restarts a b old = option_map_or (port_anew a b old) (find (λ new. port_eq new.name old.name) (view_ports b)) false

-- the logical ports that do, by bridge and number
abbrev pub restarting : Net → Net → List PortName
restarting a b = map (λ p. p.name) (filter (restarts a b) (view_ports a))

-- ---- how it is seen
-- a port with the LAN that it is plugged into, and all of a network that are plugged
abbrev pub own_plug : Net → PortName → Option (PortName × List ℕ)
own_plug net port = option_map (λ lan. (port, lan)) (own_lan net port)

abbrev pub own_plugs : Net → List (PortName × List ℕ)
own_plugs net = filter_map (own_plug net) (fin.keys net.ports)

-- such a port is plugged into another LAN in this network
abbrev pub is_elsewhere : Net → PortName × List ℕ → Bool
is_elsewhere b plug = option_map_or (λ lan. not (same_name plug.1 lan)) (own_lan b plug.0) false

-- ---- what follows
-- a logical port of two networks that is enabled in both is plugged into LANs of different names
pub record IsPluggedOver (a b : Net) (port : PortName) : Type 0 where
  pub old : LogicalPort
  pub new : LogicalPort
  pub from : List ℕ
  pub to : List ℕ
  pub was : Contains (view_ports a) old × (old.name ≡ port) × (old.is_enabled ≡ true)
  pub is : Contains (view_ports b) new × (new.name ≡ port) × (new.is_enabled ≡ true)
  pub plugged : (own_lan a port ≡ Some from) × (own_lan b port ≡ Some to)
  pub differ : from ≢ to

-- a port has one row in two networks, and its bridge has one MAC address, one kind and one MST configuration
pub record IsLeftAlone (a b : Net) (port : PortName) : Type 0 where
  pub old : BridgeRow
  pub new : BridgeRow
  pub rows : (fin.get a.bridges port.bridge ≡ Some old) × (fin.get b.bridges port.bridge ≡ Some new)
  pub mac : old.mac ≡ new.mac
  pub kind : old.is_rstp ≡ new.is_rstp
  pub configuration : (old.conf_name ≡ new.conf_name) × (old.revision ≡ new.revision) × (table_of a port.bridge ≡ table_of b port.bridge)
  pub port_row : fin.get a.ports port ≡ fin.get b.ports port
