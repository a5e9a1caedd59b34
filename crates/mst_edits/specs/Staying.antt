-- What is the same in two networks, the old one and the new one.
use Rattle.std.specs.Prelude.{◌==◌, ◌&&◌, ℕ, Bool, false, List, Option, None, Some, nat_eq, if◌then◌else◌}
use Rattle.std.specs.Option.{option_map_or}
use Rattle.std.specs.Cmp.Lexicographic.{pointwise}
use Rattle.std.specs.FinMap as fin
use Rattle.mst_ids.specs.declared.name.PortName.{PortName}
use Rattle.mst_net.specs.tables.After.{has_port, new_bridge, new_port, new_lan, all_vids, table_of, vlans_of}
use Rattle.mst_net.specs.tables.Contents.{priority_of, port_priority_of, port_cost_of}
use Rattle.mst_net.specs.tables.Table.{no_table}
use Rattle.mst_net.specs.tables.Tables.{Net, BridgeRow, LanRow}
use Rattle.mst_net.specs.tables.declared.settings.PortSettings.{PortSettings}

-- a bridge stays where both have one of that name with the same MAC
abbrev pub has_mac : ℕ → Option BridgeRow → Bool
has_mac mac row = option_map_or (λ x. x.mac == mac) row false

abbrev pub bridge_stays : Net → Net → List ℕ → Bool
bridge_stays a b bridge = option_map_or (λ x. has_mac x.mac (fin.get a.bridges bridge)) (fin.get b.bridges bridge) false

-- a port stays where its bridge does and has that number in both
abbrev pub port_stays : Net → Net → PortName → Bool
port_stays a b port = bridge_stays a b port.bridge && (has_port port a && has_port port b)

-- the LAN that a port is in
abbrev pub lan_of : Net → PortName → Option (List ℕ)
lan_of net port = option_map_or (λ row. row.lan) (fin.get net.ports port) None

-- two LANs of one name
abbrev pub is_same_lan : Option (List ℕ) → Option (List ℕ) → Bool
is_same_lan (Some lan) (Some other) = pointwise nat_eq lan other
is_same_lan (Some lan) None = false
is_same_lan None other = false

-- a plug stays where its port does and is in a LAN of the same name in both
abbrev pub plug_stays : Net → Net → PortName → Bool
plug_stays a b port = port_stays a b port && is_same_lan (lan_of a port) (lan_of b port)

-- ---- what a record and its settings were: those of the old network where it stays, else the defaults
abbrev pub bridge_before : Net → List ℕ → BridgeRow → BridgeRow
bridge_before a bridge row = option_map_or (λ old. if old.mac == row.mac then old else new_bridge row.mac) (fin.get a.bridges bridge) (new_bridge row.mac)

abbrev pub settings_before : Net → Bool → PortName → PortSettings
settings_before a stays port = (if stays then option_map_or (λ row. row) (fin.get a.ports port) new_port else new_port).settings

abbrev pub lan_before : Net → List ℕ → LanRow
lan_before a lan = option_map_or (λ row. row) (fin.get a.lans lan) new_lan

abbrev pub table_before : Net → Bool → List ℕ → List ℕ
table_before a stays bridge = if stays then table_of a bridge else no_table

abbrev pub priority_before : Net → Bool → List ℕ → ℕ → ℕ
priority_before a stays bridge tree = if stays then priority_of a bridge tree else 8

abbrev pub port_priority_before : Net → Bool → PortName → ℕ → ℕ
port_priority_before a stays port tree = if stays then port_priority_of a port tree else 8

abbrev pub port_cost_before : Net → Bool → PortName → ℕ → Option ℕ
port_cost_before a stays port tree = if stays then port_cost_of a port tree else None

abbrev pub vlans_before : Net → Bool → PortName → List Bool
vlans_before a stays port = if stays then vlans_of a port else all_vids
