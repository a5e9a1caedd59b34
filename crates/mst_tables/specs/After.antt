-- What refuses an edit, and what an edit that isn't refused makes of a network.
use Rattle.std.specs.Prelude.{ℕ, ◌==◌, Bool, true, false, not, List, [], ◌∷◌, Option, is_some, if◌then◌else◌, nat_le, nat_lt, nat_eq, Result, Ok, Err, None, Some}
use Rattle.std.specs.List.{list_any, list_all}
use Rattle.std.specs.Option.{option_map_or}
use Rattle.std.specs.Bool.{beq}
use Rattle.std.specs.Cmp.Lexicographic.{pointwise}
use Rattle.std.specs.FinMap as fin
use Rattle.std.specs.declared.cmp.Ordering.{Ordering}
use Rattle.mst_ids.specs.Texts.{mac_text}
use Rattle.mst_ids.specs.Vids.{set_where, is_vid}
use Rattle.mst_ids.specs.declared.name.PortName.{PortName}
use Rattle.mst_lang.specs.declared.line.Edit.{Edit}
use Rattle.mst_lang.specs.declared.line.Edit.TheVariants.{AddBridge, DelBridge, SetBridge, AddPort, DelPort, SetPort, AddLan, DelLan, SetLan, Plug, Unplug, SetByTree}
use Rattle.mst_lang.specs.declared.line.BridgeChange.{BridgeChange}
use Rattle.mst_lang.specs.declared.line.BridgeChange.TheVariants.{Power as PowerOf, Kind as KindOf, SystemPriority, Configuration, MaxHops, MaxAge}
use Rattle.mst_lang.specs.declared.line.PortChange.{PortChange}
use Rattle.mst_lang.specs.declared.line.PortChange.TheVariants.{Key, PathCost, RestrictedRole}
use Rattle.mst_lang.specs.declared.line.LanChange.{LanChange}
use Rattle.mst_lang.specs.declared.line.LanChange.TheVariants.{State, Speed}
use Rattle.mst_lang.specs.declared.line.TreeChange.{TreeChange}
use Rattle.mst_lang.specs.declared.line.TreeChange.TheVariants.{Priority, PortPriority, PortCost, Table, Vlans}
use Rattle.mst_lang.specs.declared.line.Kind.{Kind}
use Rattle.mst_lang.specs.declared.line.Kind.TheVariants.{Mstp, Rstp}
use Rattle.mst_lang.specs.declared.line.Power.{Power}
use Rattle.mst_lang.specs.declared.line.Power.TheVariants.{On, Off}
use Rattle.mst_lang.specs.declared.line.LanState.{LanState}
use Rattle.mst_lang.specs.declared.line.LanState.TheVariants.{Up, Down}
use Rattle.mst_tables.specs.declared.settings.PortSettings.{PortSettings}
use Rattle.mst_tables.specs.declared.refusal.Refusal.{Refusal}
use Rattle.mst_tables.specs.declared.refusal.Refusal.TheVariants.{E04, E05, E06, E07, E08, E09, E10, E11, E12, E13, E14, E15}
use Rattle.mst_tables.specs.Table.{mapped, tree_count}
use Rattle.mst_tables.specs.ByTree.{ByTree, by_tree, with_by_tree, table_in, vlans_in}
use Rattle.mst_tables.specs.Tables.{Net, BridgeRow, PortRow, LanRow, port_eq}

-- ---- what is asked of a network
abbrev pub has_bridge : List ℕ → Net → Bool
has_bridge bridge net = fin.contains_key net.bridges bridge

abbrev pub has_port : PortName → Net → Bool
has_port port net = fin.contains_key net.ports port

abbrev pub has_lan : List ℕ → Net → Bool
has_lan lan net = fin.contains_key net.lans lan

-- some bridge has this MAC
abbrev pub mac_taken : ℕ → Net → Bool
mac_taken mac net = list_any (λ b. b.mac == mac) (fin.values net.bridges)

-- the port is in a LAN
abbrev pub is_plugged : PortName → Net → Bool
is_plugged port net = option_map_or (λ row. is_some row.lan) (fin.get net.ports port) false

-- a port is the bridge's, and a port is in the LAN
abbrev pub is_of_bridge : List ℕ → PortName → PortRow → Bool
is_of_bridge bridge port row = pointwise nat_eq bridge port.bridge

abbrev pub is_in_lan : List ℕ → PortName → PortRow → Bool
is_in_lan lan port row = option_map_or (pointwise nat_eq lan) row.lan false

-- some port passes a test of its name and settings
abbrev pub some_port : (PortName → PortRow → Bool) → Net → Bool
some_port test net = list_any (λ e. test e.0 e.1) (fin.entries net.ports)

-- the table of a bridge, and the VLANs of a port
abbrev pub all_vids : List Bool
all_vids = set_where is_vid

abbrev pub table_of : Net → List ℕ → List ℕ
table_of net bridge = table_in net.tables bridge

abbrev pub vlans_of : Net → PortName → List Bool
vlans_of net port = vlans_in net.vlans port

-- ---- what refuses an edit
-- the refusal of the first test that holds
abbrev pub first_of : List (Bool × Refusal) → Option Refusal
first_of [] = None
first_of (test ∷ tests) = if test.0 then Some test.1 else first_of tests

abbrev pub no_bridge : List ℕ → Net → Bool × Refusal
no_bridge bridge net = (not (has_bridge bridge net), E04)

abbrev pub no_port : PortName → Net → Bool × Refusal
no_port port net = (not (has_port port net), E05)

abbrev pub no_lan : List ℕ → Net → Bool × Refusal
no_lan lan net = (not (has_lan lan net), E06)

-- whatever changes a bridge, a port or a LAN asks that it is there
abbrev pub of_bridge : List ℕ → Net → List (Bool × Refusal)
of_bridge bridge net = no_bridge bridge net ∷ []

abbrev pub of_port : PortName → Net → List (Bool × Refusal)
of_port port net = no_bridge port.bridge net ∷ no_port port net ∷ []

abbrev pub of_lan : List ℕ → Net → List (Bool × Refusal)
of_lan lan net = no_lan lan net ∷ []

-- the refusals of what is set by tree or VID
abbrev pub refusals_by_tree : TreeChange → Net → List (Bool × Refusal)
refusals_by_tree (Priority bridge tree priority) net = of_bridge bridge net
refusals_by_tree (PortPriority port tree priority) net = of_port port net
refusals_by_tree (PortCost port tree cost) net = of_port port net
refusals_by_tree (Table bridge tree vids) net = no_bridge bridge net ∷ (nat_lt 64 (tree_count (mapped vids tree (table_of net bridge))), E15) ∷ []
refusals_by_tree (Vlans port vids) net = of_port port net

-- the refusals of each edit, from the least number on
abbrev pub refusals : Edit → Net → List (Bool × Refusal)
refusals (AddBridge bridge mac) net = (has_bridge bridge net, E07) ∷ (mac_taken mac net, E08) ∷ (nat_le 1024 (fin.len net.bridges), E14) ∷ []
refusals (DelBridge bridge) net = no_bridge bridge net ∷ (some_port (is_of_bridge bridge) net, E12) ∷ []
refusals (SetBridge bridge change) net = of_bridge bridge net
refusals (AddPort port) net = no_bridge port.bridge net ∷ (has_port port net, E09) ∷ (nat_le 16384 (fin.len net.ports), E14) ∷ []
refusals (DelPort port) net = no_bridge port.bridge net ∷ no_port port net ∷ (is_plugged port net, E10) ∷ []
refusals (SetPort port change) net = of_port port net
refusals (AddLan lan) net = (has_lan lan net, E07) ∷ (nat_le 8192 (fin.len net.lans), E14) ∷ []
refusals (DelLan lan) net = no_lan lan net ∷ (some_port (is_in_lan lan) net, E13) ∷ []
refusals (SetLan lan change) net = of_lan lan net
refusals (Plug port lan) net = no_bridge port.bridge net ∷ no_port port net ∷ no_lan lan net ∷ (is_plugged port net, E10) ∷ []
refusals (Unplug port) net = no_bridge port.bridge net ∷ no_port port net ∷ (not (is_plugged port net), E11) ∷ []
refusals (SetByTree change) net = refusals_by_tree change net

-- why an edit is refused, if it is
abbrev pub refusal_of : Edit → Net → Option Refusal
refusal_of edit net = first_of (refusals edit net)

-- ---- what an edit makes
abbrev pub is_rstp : Kind → Bool
is_rstp Mstp = false
is_rstp Rstp = true

abbrev pub is_on : Power → Bool
is_on On = true
is_on Off = false

abbrev pub is_up : LanState → Bool
is_up Up = true
is_up Down = false

-- a new bridge is on and of kind mstp, its system priority is 32768, its configuration has revision 0 and the
-- text of its MAC as name, and its Max Hops and Max Age are 20
abbrev pub new_bridge : ℕ → BridgeRow
new_bridge mac = record { mac = mac; is_rstp = false; is_on = true; system_priority = 32_768; revision = 0; conf_name = mac_text mac; max_hops = 20; max_age = 20 }

-- a new port has key 0, its cost is automatic, its role isn't restricted, and it is in no LAN
abbrev pub new_settings : PortSettings
new_settings = record { key = 0; external = None; is_restricted = false }

abbrev pub new_port : PortRow
new_port = record { lan = None; settings = new_settings }

-- a new LAN is up and has 1,000,000 kb/s
abbrev pub new_lan : LanRow
new_lan = record { speed = 1_000_000; is_up = true }

-- the settings of a bridge with a change, those of a port, and those of a LAN
abbrev pub bridge_with : BridgeChange → BridgeRow → BridgeRow
bridge_with (PowerOf power) row = record row { is_on = is_on power }
bridge_with (KindOf kind) row = record row { is_rstp = is_rstp kind }
bridge_with (SystemPriority priority) row = record row { system_priority = priority }
bridge_with (Configuration revision name) row = record row { revision = revision; conf_name = name }
bridge_with (MaxHops limit) row = record row { max_hops = limit }
bridge_with (MaxAge limit) row = record row { max_age = limit }

abbrev pub settings_with : PortChange → PortSettings → PortSettings
settings_with (Key key) s = record s { key = key }
settings_with (PathCost cost) s = record s { external = cost }
settings_with (RestrictedRole restricted) s = record s { is_restricted = restricted }

abbrev pub port_with : PortChange → PortRow → PortRow
port_with change row = record row { settings = settings_with change row.settings }

abbrev pub lan_with : LanChange → LanRow → LanRow
lan_with (State state) row = record row { is_up = is_up state }
lan_with (Speed speed) row = record row { speed = speed }

-- those of a port that is in a LAN, or in none
abbrev pub in_lan : Option (List ℕ) → PortRow → PortRow
in_lan lan row = record row { lan = lan }

-- a table with what stands under a key changed, if there is something
abbrev pub change : {K X : Type 0} {R : K → K → Ordering} → fin.FinMap R X → K → (X → X) → fin.FinMap R X
change table k f = option_map_or (λ x. fin.insert table k (f x)) (fin.get table k) table

abbrev pub change_bridge : List ℕ → (BridgeRow → BridgeRow) → Net → Net
change_bridge bridge f net = record net { bridges = change net.bridges bridge f }

abbrev pub change_port : PortName → (PortRow → PortRow) → Net → Net
change_port port f net = record net { ports = change net.ports port f }

abbrev pub change_lan : List ℕ → (LanRow → LanRow) → Net → Net
change_lan lan f net = record net { lans = change net.lans lan f }

-- a table with a value under a key, or with none
abbrev pub keep : {K X : Type 0} {R : K → K → Ordering} → fin.FinMap R X → K → Option X → fin.FinMap R X
keep table k None = fin.remove table k
keep table k (Some x) = fin.insert table k x

-- what is kept of a priority, a table or a set of VLANs: nothing of the default, which is 8, the table with
-- all VIDs in the CIST, and all VLANs
abbrev pub own_priority : ℕ → Option ℕ
own_priority priority = if priority == 8 then None else Some priority

abbrev pub own_table : List ℕ → Option (List ℕ)
own_table table = if list_all (λ tree. tree == 0) table then None else Some table

abbrev pub own_vlans : List Bool → Option (List Bool)
own_vlans vids = if pointwise beq vids all_vids then None else Some vids

-- a bridge taken away with what is set for it, and a port
abbrev pub without_bridge : List ℕ → Net → Net
without_bridge bridge net = record net {
  bridges = fin.remove net.bridges bridge;
  priorities = fin.retain_keys net.priorities (λ k. not (pointwise nat_eq bridge k.bridge));
  tables = fin.remove net.tables bridge;
}

abbrev pub without_port : PortName → Net → Net
without_port port net = record net {
  ports = fin.remove net.ports port;
  port_priorities = fin.retain_keys net.port_priorities (λ k. not (port_eq port k.port));
  port_costs = fin.retain_keys net.port_costs (λ k. not (port_eq port k.port));
  vlans = fin.remove net.vlans port;
}

-- what is set by tree or VID, with a change
abbrev pub set_with : TreeChange → ByTree → ByTree
set_with (Priority bridge tree priority) set = record set { priorities = keep set.priorities (record { bridge = bridge; tree = tree }) (own_priority priority) }
set_with (PortPriority port tree priority) set = record set { port_priorities = keep set.port_priorities (record { port = port; tree = tree }) (own_priority priority) }
set_with (PortCost port tree cost) set = record set { port_costs = keep set.port_costs (record { port = port; tree = tree }) cost }
set_with (Table bridge tree vids) set = record set { tables = keep set.tables bridge (own_table (mapped vids tree (table_in set.tables bridge))) }
set_with (Vlans port vids) set = record set { vlans = keep set.vlans port (own_vlans vids) }

-- what each edit makes of a network in which nothing refuses it
abbrev pub effect : Edit → Net → Net
effect (AddBridge bridge mac) net = record net { bridges = fin.insert net.bridges bridge (new_bridge mac) }
effect (DelBridge bridge) net = without_bridge bridge net
effect (SetBridge bridge change) net = change_bridge bridge (bridge_with change) net
effect (AddPort port) net = record net { ports = fin.insert net.ports port new_port }
effect (DelPort port) net = without_port port net
effect (SetPort port change) net = change_port port (port_with change) net
effect (AddLan lan) net = record net { lans = fin.insert net.lans lan new_lan }
effect (DelLan lan) net = record net { lans = fin.remove net.lans lan }
effect (SetLan lan change) net = change_lan lan (lan_with change) net
effect (Plug port lan) net = change_port port (in_lan (Some lan)) net
effect (Unplug port) net = change_port port (in_lan None) net
effect (SetByTree change) net = with_by_tree net (set_with change (by_tree net))

-- the network after the edit, or why it is refused
abbrev pub after : Edit → Net → Result Net Refusal
after edit net = option_map_or Err (refusal_of edit net) (Ok (effect edit net))
