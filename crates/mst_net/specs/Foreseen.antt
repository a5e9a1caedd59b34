-- What an edit makes of one record or setting.
use Rattle.std.specs.Prelude.{ℕ, ◌&&◌, List, Bool, Option, None, Some, if◌then◌else◌, nat_eq}
use Rattle.std.specs.Option.{option_map, option_and_then}
use Rattle.std.specs.Cmp.Lexicographic.{pointwise}
use Rattle.mst_ids.specs.declared.name.PortName.{PortName}
use Rattle.mst_lang.specs.declared.line.Edit.{Edit}
use Rattle.mst_lang.specs.declared.line.Edit.TheVariants.{AddBridge, DelBridge, SetBridge, AddPort, DelPort, SetPort, AddLan, DelLan, SetLan, Plug, Unplug, SetByTree}
use Rattle.mst_lang.specs.declared.line.TreeChange.TheVariants.{Priority, PortPriority, PortCost, Table, Vlans}
use Rattle.mst_tables.specs.Table.{no_table, mapped}
use Rattle.mst_tables.specs.Tables.{BridgeRow, PortRow, LanRow, port_eq}
use Rattle.mst_tables.specs.After.{new_bridge, new_port, new_lan, bridge_with, port_with, lan_with, in_lan, all_vids}

-- what the edit makes of the settings of a bridge, where it is there
abbrev pub bridge_row_after : Edit → List ℕ → Option BridgeRow → Option BridgeRow
bridge_row_after (AddBridge bridge mac) name there = if pointwise nat_eq bridge name then Some (new_bridge mac) else there
bridge_row_after (DelBridge bridge) name there = if pointwise nat_eq bridge name then None else there
bridge_row_after (SetBridge bridge change) name there = if pointwise nat_eq bridge name then option_map (bridge_with change) there else there
bridge_row_after _ name there = there

abbrev pub port_row_after : Edit → PortName → Option PortRow → Option PortRow
port_row_after (AddPort port) name there = if port_eq port name then Some new_port else there
port_row_after (DelPort port) name there = if port_eq port name then None else there
port_row_after (Plug port lan) name there = if port_eq port name then option_map (in_lan (Some lan)) there else there
port_row_after (Unplug port) name there = if port_eq port name then option_map (in_lan None) there else there
port_row_after (SetPort port change) name there = if port_eq port name then option_map (port_with change) there else there
port_row_after _ name there = there

abbrev pub lan_row_after : Edit → List ℕ → Option LanRow → Option LanRow
lan_row_after (AddLan lan) name there = if pointwise nat_eq lan name then Some new_lan else there
lan_row_after (DelLan lan) name there = if pointwise nat_eq lan name then None else there
lan_row_after (SetLan lan change) name there = if pointwise nat_eq lan name then option_map (lan_with change) there else there
lan_row_after _ name there = there

-- what it makes of the number of a record
abbrev pub bridge_number_after : Edit → ℕ → List ℕ → Option ℕ → Option ℕ
bridge_number_after (AddBridge bridge mac) next name there = if pointwise nat_eq bridge name then Some next else there
bridge_number_after (DelBridge bridge) next name there = if pointwise nat_eq bridge name then None else there
bridge_number_after _ next name there = there

abbrev pub port_number_after : Edit → ℕ → PortName → Option ℕ → Option ℕ
port_number_after (AddPort port) next name there = if port_eq port name then Some next else there
port_number_after (DelPort port) next name there = if port_eq port name then None else there
port_number_after _ next name there = there

abbrev pub lan_number_after : Edit → ℕ → List ℕ → Option ℕ → Option ℕ
lan_number_after (AddLan lan) next name there = if pointwise nat_eq lan name then Some next else there
lan_number_after (DelLan lan) next name there = if pointwise nat_eq lan name then None else there
lan_number_after _ next name there = there

-- what it makes of the name that has a number
abbrev pub without : {K : Type 0} → (K → Bool) → Option K → Option K
without gone there = option_and_then (λ name. if gone name then None else Some name) there

abbrev pub bridge_name_after : Edit → ℕ → ℕ → Option (List ℕ) → Option (List ℕ)
bridge_name_after (AddBridge bridge mac) next number there = if nat_eq next number then Some bridge else there
bridge_name_after (DelBridge bridge) next number there = without (pointwise nat_eq bridge) there
bridge_name_after _ next number there = there

abbrev pub port_name_after : Edit → ℕ → ℕ → Option PortName → Option PortName
port_name_after (AddPort port) next number there = if nat_eq next number then Some port else there
port_name_after (DelPort port) next number there = without (port_eq port) there
port_name_after _ next number there = there

abbrev pub lan_name_after : Edit → ℕ → ℕ → Option (List ℕ) → Option (List ℕ)
lan_name_after (AddLan lan) next number there = if nat_eq next number then Some lan else there
lan_name_after (DelLan lan) next number there = without (pointwise nat_eq lan) there
lan_name_after _ next number there = there

-- what it makes of what is set by tree or VID
abbrev pub priority_after : Edit → List ℕ → ℕ → ℕ → ℕ
priority_after (DelBridge bridge) name other there = if pointwise nat_eq bridge name then 8 else there
priority_after (SetByTree (Priority bridge tree priority)) name other there = if pointwise nat_eq bridge name && nat_eq tree other then priority else there
priority_after _ name other there = there

abbrev pub port_priority_after : Edit → PortName → ℕ → ℕ → ℕ
port_priority_after (DelPort port) name other there = if port_eq port name then 8 else there
port_priority_after (SetByTree (PortPriority port tree priority)) name other there = if port_eq port name && nat_eq tree other then priority else there
port_priority_after _ name other there = there

abbrev pub port_cost_after : Edit → PortName → ℕ → Option ℕ → Option ℕ
port_cost_after (DelPort port) name other there = if port_eq port name then None else there
port_cost_after (SetByTree (PortCost port tree cost)) name other there = if port_eq port name && nat_eq tree other then cost else there
port_cost_after _ name other there = there

abbrev pub table_after : Edit → List ℕ → List ℕ → List ℕ
table_after (DelBridge bridge) name there = if pointwise nat_eq bridge name then no_table else there
table_after (SetByTree (Table bridge tree vids)) name there = if pointwise nat_eq bridge name then mapped vids tree there else there
table_after _ name there = there

abbrev pub vlans_after : Edit → PortName → List Bool → List Bool
vlans_after (DelPort port) name there = if port_eq port name then all_vids else there
vlans_after (SetByTree (Vlans port vids)) name there = if port_eq port name then vids else there
vlans_after _ name there = there
