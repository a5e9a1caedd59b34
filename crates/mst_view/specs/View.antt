-- The view: what the trees see of a network once the links of each class count as one.
use Rattle.std.specs.Prelude.{◌≡◌, ℕ, ◌&&◌, Bool, false, List, map, filter, Option}
use Rattle.std.specs.List.{find, list_any, sum_by, Contains}
use Rattle.std.specs.Option.{option_map_or, unwrap_or}
use Rattle.std.specs.FinMap as fin
use Rattle.mst_ids.specs.declared.name.PortName.{PortName}
use Rattle.mst_tables.specs.Tables.{Net, LanRow, port_eq}
use Rattle.mst_tables.specs.declared.settings.PortSettings.{PortSettings}
use Rattle.mst_view.specs.Aggregation.{Plug, plugs, same_name, lans_as_one, ports_as_one}
use Rattle.mst_view.specs.Lag.{lag_of}
use Rattle.mst_view.specs.declared.lag.LagId.{LagId}

-- the logical LAN of a LAN: of those that count as one with it, the least in byte order of names
abbrev pub logical_lan : Net → List ℕ → List ℕ
logical_lan net lan = unwrap_or (find (lans_as_one net lan) (fin.keys net.lans)) lan

-- the logical port of a plugged one: of those that count as one with it, the lowest in number
abbrev pub logical_port : Net → Plug → Plug
logical_port net p = unwrap_or (find (ports_as_one net p) (plugs net)) p

-- the members of a logical LAN, and those that are up
abbrev pub members : Net → List ℕ → List (List ℕ × LanRow)
members net lan = filter (λ e. same_name (logical_lan net e.0) lan) (fin.entries net.lans)

abbrev pub up_members : Net → List ℕ → List (List ℕ × LanRow)
up_members net lan = filter (λ e. e.1.is_up) (members net lan)

-- the plugs of its members
abbrev pub member_plugs : Net → List ℕ → List Plug
member_plugs net lan = filter (λ p. same_name (logical_lan net p.lan) lan) (plugs net)

-- it is up while a member is up, and its speed in kb/s is the sum over the members that are up
abbrev pub is_up : Net → List ℕ → Bool
is_up net lan = list_any (λ e. e.1.is_up) (members net lan)

abbrev pub speed : Net → List ℕ → ℕ
speed net lan = sum_by (λ e. e.1.speed) (up_members net lan)

-- a logical LAN, with the identifier of its link aggregation group, if its members are aggregatable
pub record LogicalLan : Type 0 where
  pub name : List ℕ
  pub speed : ℕ
  pub is_up : Bool
  pub lag : Option LagId

abbrev pub as_lan : Net → List ℕ → LogicalLan
as_lan net lan = record { name = lan; speed = speed net lan; is_up = is_up net lan; lag = lag_of net lan }

-- the logical LANs, in byte order of names
abbrev pub view_lans : Net → List LogicalLan
view_lans net = map (as_lan net) (filter (λ lan. same_name (logical_lan net lan) lan) (fin.keys net.lans))

-- the bridge of this name is on
abbrev pub is_on : Net → List ℕ → Bool
is_on net name = option_map_or (λ row. row.is_on) (fin.get net.bridges name) false

-- a logical port, its logical LAN with that one's speed, and its settings. It is
-- enabled where its bridge is on and its logical LAN is up
pub record LogicalPort : Type 0 where
  pub name : PortName
  pub lan : List ℕ
  pub speed : ℕ
  pub settings : PortSettings
  pub is_enabled : Bool

abbrev pub as_port : Net → Plug → LogicalPort
as_port net p =
    let lan = logical_lan net p.lan in
    record {
      name = p.port;
      lan = lan;
      speed = speed net lan;
      settings = p.settings;
      is_enabled = is_on net p.port.bridge && is_up net lan;
    }

-- the logical ports, by bridge and number
abbrev pub view_ports : Net → List LogicalPort
view_ports net = map (as_port net) (filter (λ p. port_eq (logical_port net p).port p.port) (plugs net))

-- no logical port's role is restricted
abbrev pub IsUnrestricted : Net → Type 0
IsUnrestricted net = (p : LogicalPort) → Contains (view_ports net) p → p.settings.is_restricted ≡ false

-- the names of a network's bridges, in byte order, and of its logical ports, by bridge and number
abbrev pub bridge_names : Net → List (List ℕ)
bridge_names net = fin.keys net.bridges

abbrev pub port_names : Net → List PortName
port_names net = map (λ p. p.name) (view_ports net)
