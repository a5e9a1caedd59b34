-- How a view is kept, under names and under the numbers of records.
use Rattle.std.specs.Prelude.{◌≡◌, ℕ, List, map, Some, None, nat_eq}
use Rattle.std.specs.List.{AllByRecursion}
use Rattle.std.specs.Map.{lookup}
use Rattle.std.specs.FinMap as fin
use Rattle.mst_tables.specs.Tables.{Net, Numbers, BridgeRow, LanRow}
use Rattle.mst_tables.specs.Seen.{bridge_row}
use Rattle.mst_tables.specs.ByTree.{ByTree, by_tree}
use Rattle.mst_view.specs.Aggregation.{Plug, plugs}
use Rattle.mst_view.specs.Lag.{lag_of}
use Rattle.mst_view.specs.Trees.{mstis_of}
use Rattle.mst_view.specs.View.{LogicalLan, LogicalPort, logical_lan, view_lans, view_ports}
use Rattle.mst_view.specs.declared.lag.LagId.{LagId}
use Rattle.mst_view.specs.declared.in_view.BridgeInView.{BridgeInView}
use Rattle.mst_view.specs.declared.in_view.PortInView.{PortInView}
use Rattle.mst_view.specs.declared.in_view.LanInView.{LanInView}
use Rattle.mst_view.specs.declared.in_view.MemberLan.{MemberLan}
use Rattle.mst_view.specs.declared.in_view.MemberPort.{MemberPort}

-- what is seen of a view: its bridges, the trees of each by its number, logical ports and logical LANs, the
-- members of logical LANs, and the identifier of each aggregatable LAN's group by the LAN's number, and what is
-- set by tree or VID
pub record Viewed : Type 0 where
  pub bridges : List BridgeInView
  pub trees : List (ℕ × List ℕ)
  pub ports : List PortInView
  pub lans : List LanInView
  pub member_lans : List MemberLan
  pub member_ports : List MemberPort
  pub lags : List (ℕ × LagId)
  pub settings : ByTree

-- under names
abbrev pub named_bridge : BridgeInView → List ℕ × BridgeRow
named_bridge b = (b.name, bridge_row b.bridge)

abbrev pub named_port : PortInView → LogicalPort
named_port p = record { name = p.name; lan = p.lan; speed = p.speed; settings = p.settings; is_enabled = p.is_enabled }

abbrev pub named_lan : LanInView → LogicalLan
named_lan l = record { name = l.name; speed = l.speed; is_up = l.is_up; lag = l.lag }

-- a bridge's number, and the trees that it has beside the CIST
abbrev pub bridge_trees : Net → BridgeInView → ℕ × List ℕ
bridge_trees net b = (b.bridge.number, mstis_of net b.name (bridge_row b.bridge))

-- a LAN and a plugged port as members of a logical LAN
abbrev pub member_lan : Net → List ℕ × LanRow → MemberLan
member_lan net e = record { name = e.0; lan = logical_lan net e.0; is_up = e.1.is_up }

abbrev pub member_port : Net → Plug → MemberPort
member_port net p = record { name = p.port; lan = logical_lan net p.lan }

-- a logical port, its bridge and its logical LAN have the numbers of their records
pub record HasNumbers (numbers : Numbers) (p : PortInView) : Type 0 where
  pub port : fin.get numbers.ports p.name ≡ Some p.number
  pub bridge : fin.get numbers.bridges p.name.bridge ≡ Some p.bridge
  pub lan : fin.get numbers.lans p.lan ≡ Some p.lan_number

-- it is the view of this network
pub record IsView (net : Net) (numbers : Numbers) (v : Viewed) : Type 0 where
  pub bridges : map named_bridge v.bridges ≡ fin.entries net.bridges
  pub trees : v.trees ≡ map (bridge_trees net) v.bridges
  pub ports : map named_port v.ports ≡ view_ports net
  pub lans : map named_lan v.lans ≡ view_lans net
  pub member_lans : v.member_lans ≡ map (member_lan net) (fin.entries net.lans)
  pub member_ports : v.member_ports ≡ map (member_port net) (plugs net)
  pub bridge_numbers : AllByRecursion (λ b. fin.get numbers.bridges b.name ≡ Some b.bridge.number) v.bridges
  pub port_numbers : AllByRecursion (HasNumbers numbers) v.ports
  pub lan_numbers : AllByRecursion (λ l. fin.get numbers.lans l.name ≡ Some l.number) v.lans
  pub lags : (lan : List ℕ) (n : ℕ) → fin.get numbers.lans lan ≡ Some n → lookup (nat_eq n) v.lags ≡ lag_of net lan
  pub no_lags : (n : ℕ) → ((lan : List ℕ) → fin.get numbers.lans lan ≡ Some n → ⊥) → lookup (nat_eq n) v.lags ≡ None
  pub settings : v.settings ≡ by_tree net
