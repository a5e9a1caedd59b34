-- A view of a network in which one LAN, or what is set by tree, is another than before.
use Rattle.std.specs.Prelude.{◌≡◌, ℕ, ◌&&◌, true, false, Bool, List, Option, if◌then◌else◌, nat_lt}
use Rattle.std.specs.List.{find}
use Rattle.std.specs.Option.{option_map, option_map_or, option_and_then}
use Rattle.std.specs.FinMap as fin
use Rattle.mst_ids.specs.Names.{name_cmp, port_cmp}
use Rattle.mst_ids.specs.declared.name.PortName.{PortName}
use Rattle.mst_lang.specs.declared.line.BridgeChange.{BridgeChange}
use Rattle.mst_lang.specs.declared.line.BridgeChange.TheVariants.{Power, Kind, SystemPriority, Configuration, MaxHops, MaxAge}
use Rattle.mst_lang.specs.declared.line.TreeChange.{TreeChange}
use Rattle.mst_lang.specs.declared.line.TreeChange.TheVariants.{Priority, PortPriority, PortCost, Table, Vlans}
use Rattle.mst_tables.specs.ByTree.{ByTree, with_by_tree}
use Rattle.mst_lang.specs.declared.line.PortChange.{PortChange}
use Rattle.mst_lang.specs.declared.line.PortChange.TheVariants.{Key, PathCost, RestrictedRole}
use Rattle.mst_tables.specs.After.{new_settings}
use Rattle.mst_tables.specs.Contents.{IsNumbered}
use Rattle.mst_tables.specs.declared.settings.PortSettings.{PortSettings}
use Rattle.mst_tables.specs.Tables.{Net, Numbers, BridgeRow, PortRow, LanRow, IsNetwork, port_eq}
use Rattle.mst_view.specs.Aggregation.{same_name}
use Rattle.mst_view.specs.View.{is_on}
use Rattle.mst_view.specs.Viewed.{Viewed, IsView}
use Rattle.mst_view.specs.declared.in_view.PortInView.{PortInView}
use Rattle.mst_view.specs.declared.in_view.LanInView.{LanInView}
use Rattle.mst_view.specs.declared.in_view.MemberLan.{MemberLan}
use Rattle.mst_lag.specs.declared.members.LanSeen.{LanSeen}
use Rattle.mst_lag.specs.declared.members.Total.{Total}

-- the second network is the first but for the state and the speed of this LAN: both have the same LANs
pub record DifferInLan (lan : List ℕ) (old new : Net) : Type 0 where
  pub lans : fin.FinMap name_cmp LanRow
  pub is : new ≡ record old { lans = lans }
  pub names : fin.keys lans ≡ fin.keys old.lans
  pub others : (l : List ℕ) → same_name lan l ≡ false → fin.get lans l ≡ fin.get old.lans l

-- it is the view of a network that differs from this one in this LAN at most
pub record IsViewButLan (lan : List ℕ) (net : Net) (numbers : Numbers) (v : Viewed) : Type 0 where
  pub old : Net
  pub view : IsView old numbers v
  pub differ : DifferInLan lan old net

-- the logical LAN of a LAN, by the members of logical LANs
abbrev pub logical_among : List MemberLan → List ℕ → List ℕ
logical_among members lan = option_map_or (λ m. m.lan) (find (λ m. same_name m.name lan) members) lan

-- the LAN of this name is up, if there is one
abbrev pub is_up_there : Net → List ℕ → Bool
is_up_there net lan = option_map_or (λ row. row.is_up) (fin.get net.lans lan) false

-- a member with the number, the speed and the state that its LAN has in this network
abbrev pub seen_member : Net → Numbers → MemberLan → Option LanSeen
seen_member net numbers m =
    option_and_then (λ row. option_map (λ number. record {
      name = m.name;
      number = number;
      lan = m.lan;
      speed = row.speed;
      is_up = row.is_up;
    }) (fin.get numbers.lans m.name)) (fin.get net.lans m.name)

-- a member, a logical LAN and a logical port once this LAN has another state, or once members give this together
abbrev pub member_again : List ℕ → Bool → MemberLan → MemberLan
member_again lan is_up m = if same_name m.name lan then record m { is_up = is_up } else m

abbrev pub lan_again : List ℕ → Total → LanInView → LanInView
lan_again lan total l = if same_name l.name lan then record l { speed = total.speed; is_up = total.is_up } else l

-- a logical port whose logical LAN's members give this together, and so once this LAN's members do
abbrev pub port_giving : Net → Total → PortInView → PortInView
port_giving net total p = record p { speed = total.speed; is_enabled = is_on net p.name.bridge && total.is_up }

abbrev pub port_again : Net → List ℕ → Total → PortInView → PortInView
port_again net lan total p = if same_name p.lan lan then port_giving net total p else p

-- what links and trees go by of a bridge's settings, but for whether it is on
pub record BridgePart : Type 0 where
  pub mac : ℕ
  pub is_rstp : Bool
  pub system_priority : ℕ

abbrev pub bridge_part : BridgeRow → BridgePart
bridge_part row = record { mac = row.mac; is_rstp = row.is_rstp; system_priority = row.system_priority }

-- the second network is the first but for the settings of this bridge, which has the same part of them: both have the same bridges
pub record DifferInBridge (bridge : List ℕ) (old new : Net) : Type 0 where
  pub bridges : fin.FinMap name_cmp BridgeRow
  pub is : new ≡ record old { bridges = bridges }
  pub names : fin.keys bridges ≡ fin.keys old.bridges
  pub others : (a : List ℕ) → same_name bridge a ≡ false → fin.get bridges a ≡ fin.get old.bridges a
  pub parts : (a : List ℕ) → option_map bridge_part (fin.get bridges a) ≡ option_map bridge_part (fin.get old.bridges a)

-- it is the view of a network that differs from this one in this bridge at most
pub record IsViewButBridge (bridge : List ℕ) (net : Net) (numbers : Numbers) (v : Viewed) : Type 0 where
  pub old : Net
  pub view : IsView old numbers v
  pub differ : DifferInBridge bridge old net

-- a logical port whose bridge is on or off, and so once this bridge is: its logical LAN is up where it has a speed
abbrev pub powered : Bool → PortInView → PortInView
powered is_on p = record p { is_enabled = is_on && nat_lt 0 p.speed }

abbrev pub port_powered : List ℕ → Bool → PortInView → PortInView
port_powered bridge is_on p = if same_name p.name.bridge bridge then powered is_on p else p

-- a change of a bridge that leaves what links and trees go by, but for whether it is on
abbrev pub leaves_links : BridgeChange → Bool
leaves_links (Power power) = true
leaves_links (Kind kind) = false
leaves_links (SystemPriority priority) = false
leaves_links (Configuration revision name) = true
leaves_links (MaxHops limit) = true
leaves_links (MaxAge limit) = true

-- it is the view of a network that differs from this one in what is set by tree or VID at most
pub record IsViewButSet (net : Net) (numbers : Numbers) (v : Viewed) : Type 0 where
  pub old : Net
  pub view : IsView old numbers v
  pub set : ByTree
  pub is : net ≡ with_by_tree old set

-- and not in the tables of bridges
pub record IsViewButSettings (net : Net) (numbers : Numbers) (v : Viewed) : Type 0 where
  pub but : IsViewButSet net numbers v
  pub tables : but.set.tables ≡ but.old.tables

-- a change of what is set by tree or VID that leaves the tables of bridges
abbrev pub leaves_tables : TreeChange → Bool
leaves_tables (Priority bridge tree priority) = true
leaves_tables (PortPriority port tree priority) = true
leaves_tables (PortCost port tree cost) = true
leaves_tables (Table bridge tree vids) = false
leaves_tables (Vlans port vids) = true

-- it is the view of a network that differs from this one in its ports at most
pub record IsViewButPorts (net : Net) (numbers : Numbers) (v : Viewed) : Type 0 where
  pub old : Net
  pub view : IsView old numbers v
  pub ports : fin.FinMap port_cmp PortRow
  pub is : net ≡ record old { ports = ports }

-- what links go by of a port: its LAN and its key
pub record PortPart : Type 0 where
  pub lan : Option (List ℕ)
  pub key : ℕ

abbrev pub port_part : PortRow → PortPart
port_part row = record { lan = row.lan; key = row.settings.key }

-- the second network is the first but for the settings of this port, which has the same part of them: both have the same ports
pub record DifferInPort (port : PortName) (old new : Net) : Type 0 where
  pub ports : fin.FinMap port_cmp PortRow
  pub is : new ≡ record old { ports = ports }
  pub names : fin.keys ports ≡ fin.keys old.ports
  pub others : (p : PortName) → port_eq port p ≡ false → fin.get ports p ≡ fin.get old.ports p
  pub parts : (p : PortName) → option_map port_part (fin.get ports p) ≡ option_map port_part (fin.get old.ports p)

-- it is the view of a network that differs from this one in this port at most
pub record IsViewButPort (port : PortName) (net : Net) (numbers : Numbers) (v : Viewed) : Type 0 where
  pub old : Net
  pub network : IsNetwork old
  pub numbered : IsNumbered old numbers
  pub view : IsView old numbers v
  pub differ : DifferInPort port old net

-- the settings of this port, and those of a new one where there is none
abbrev pub settings_there : Net → PortName → PortSettings
settings_there net port = option_map_or (λ row. row.settings) (fin.get net.ports port) new_settings

-- a logical port with these settings, and so once this one has them
abbrev pub port_with : PortSettings → PortInView → PortInView
port_with settings p = record p { settings = settings }

abbrev pub port_set : PortName → PortSettings → PortInView → PortInView
port_set port settings p = if port_eq p.name port then port_with settings p else p

-- a change of a port that leaves what links go by
abbrev pub leaves_key : PortChange → Bool
leaves_key (Key key) = false
leaves_key (PathCost cost) = true
leaves_key (RestrictedRole restricted) = true
