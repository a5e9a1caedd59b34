-- The rows of edits: of each a command, behind the version. What saves a network, and what changes one into another.
use Rattle.std.specs.Prelude.{ℕ, ◌*◌, true, false, Bool, List, [], ◌∷◌, Option, if◌then◌else◌}
use Rattle.std.specs.Bool.{beq}
use Rattle.std.specs.List.{flat_map}
use Rattle.std.specs.Option.{unwrap_or}
use Rattle.std.specs.Cmp.Lexicographic.{pointwise}
use Rattle.mst_ids.specs.Texts.{mac_text}
use Rattle.mst_ids.specs.Vids.{runs_from}
use Rattle.mst_ids.specs.declared.name.PortName.{PortName}
use Rattle.mst_kinds.specs.declared.kind.Kind.TheVariants.{OfBridge, OfPort}
use Rattle.mst_kinds.specs.declared.bridge_command.BridgeCommand.{BridgeCommand}
use Rattle.mst_kinds.specs.declared.bridge_command.BridgeCommand.TheVariants as bridge_command
use Rattle.mst_kinds.specs.declared.port_command.PortCommand.{PortCommand}
use Rattle.mst_kinds.specs.declared.port_command.PortCommand.TheVariants as port_command
use Rattle.mst_lang.specs.declared.line.Edit.{Edit}
use Rattle.mst_lang.specs.declared.line.Edit.TheVariants.{AddBridge, DelBridge, SetBridge, AddPort, DelPort, SetPort, AddLan, DelLan, SetLan, Plug, Unplug, SetByTree}
use Rattle.mst_lang.specs.declared.line.BridgeChange.{BridgeChange}
use Rattle.mst_lang.specs.declared.line.BridgeChange.TheVariants.{Power as PowerOf, Kind as KindOf, SystemPriority, Configuration, MaxHops, MaxAge}
use Rattle.mst_lang.specs.declared.line.PortChange.{PortChange}
use Rattle.mst_lang.specs.declared.line.PortChange.TheVariants.{Key, PathCost, RestrictedRole}
use Rattle.mst_lang.specs.declared.line.LanChange.{LanChange}
use Rattle.mst_lang.specs.declared.line.LanChange.TheVariants.{State, Speed}
use Rattle.mst_lang.specs.declared.line.TreeChange.{TreeChange}
use Rattle.mst_lang.specs.declared.line.TreeChange.TheVariants.{Priority, PortPriority, PortCost, Table, Vlans}
use Rattle.mst_lang.specs.declared.line.Kind.TheVariants.{Mstp, Rstp}
use Rattle.mst_lang.specs.declared.line.Power.TheVariants.{On, Off}
use Rattle.mst_lang.specs.declared.line.LanState.TheVariants.{Up, Down}
use Rattle.mst_net.specs.tables.After.{all_vids}
use Rattle.mst_net.specs.tables.Tables.{Net}
use Rattle.mst_rows.specs.Cells.{Cell, word, number, vids as vids_cell}
use Rattle.mst_rows.specs.Rows.{Row, row_of}
use Rattle.mst_edits.specs.EditLine.{no_vids}
use Rattle.mst_edits.specs.Edits.{edits, saved_edits}

-- a command of a bridge or of a LAN, by its name, and of a port, by its bridge and its number
abbrev pub of_bridge : BridgeCommand → List ℕ → List Cell → List Row
of_bridge command bridge cells = row_of (OfBridge command) (word bridge ∷ cells) ∷ []

abbrev pub of_lan : PortCommand → List ℕ → List Cell → List Row
of_lan command lan cells = row_of (OfPort command) (word lan ∷ cells) ∷ []

abbrev pub of_port : PortCommand → PortName → List Cell → List Row
of_port command port cells = row_of (OfPort command) (word port.bridge ∷ number port.number ∷ cells) ∷ []

-- an automatic cost is 0
abbrev pub cost_cell : Option ℕ → Cell
cost_cell cost = number (unwrap_or cost 0)

abbrev pub bridge_rows : List ℕ → BridgeChange → List Row
bridge_rows bridge (PowerOf On) = of_bridge bridge_command.On bridge []
bridge_rows bridge (PowerOf Off) = of_bridge bridge_command.Off bridge []
bridge_rows bridge (KindOf Mstp) = of_bridge bridge_command.Mstp bridge []
bridge_rows bridge (KindOf Rstp) = of_bridge bridge_command.Rstp bridge []
bridge_rows bridge (SystemPriority priority) = of_bridge bridge_command.SystemPriority bridge (number priority ∷ [])
bridge_rows bridge (Configuration revision name) = of_bridge bridge_command.Configuration bridge (number revision ∷ word name ∷ [])
bridge_rows bridge (MaxHops limit) = of_bridge bridge_command.MaxHops bridge (number limit ∷ [])
bridge_rows bridge (MaxAge limit) = of_bridge bridge_command.MaxAge bridge (number limit ∷ [])

abbrev pub port_rows : PortName → PortChange → List Row
port_rows port (Key key) = of_port port_command.Key port (number key ∷ [])
port_rows port (PathCost cost) = of_port port_command.ExternalCost port (cost_cell cost ∷ [])
port_rows port (RestrictedRole true) = of_port port_command.Restricted port []
port_rows port (RestrictedRole false) = of_port port_command.Unrestricted port []

abbrev pub lan_rows : List ℕ → LanChange → List Row
lan_rows lan (State Up) = of_lan port_command.LanUp lan []
lan_rows lan (State Down) = of_lan port_command.LanDown lan []
lan_rows lan (Speed speed) = of_lan port_command.Speed lan (number speed ∷ [])

-- the command of a port in all VLANs, in none, and in some
abbrev pub vlans_command : List Bool → PortCommand
vlans_command vids = if pointwise beq vids all_vids then port_command.AllVlans else if pointwise beq vids no_vids then port_command.NoVlans else port_command.Vlans

-- a step of a bridge's priority is 4096, one of a port's 16
abbrev pub tree_rows : TreeChange → List Row
tree_rows (Priority bridge tree priority) = of_bridge bridge_command.Priority bridge (number tree ∷ number (priority * 4096) ∷ [])
tree_rows (PortPriority port tree priority) = of_port port_command.Priority port (number tree ∷ number (priority * 16) ∷ [])
tree_rows (PortCost port tree cost) = of_port port_command.InternalCost port (number tree ∷ cost_cell cost ∷ [])
tree_rows (Table bridge tree vids) = of_bridge bridge_command.Msti bridge (number tree ∷ vids_cell (runs_from 0 vids) ∷ [])
tree_rows (Vlans port vids) = of_port (vlans_command vids) port (vids_cell (runs_from 0 vids) ∷ [])

-- the row of an edit
abbrev pub edit_rows : Edit → List Row
edit_rows (AddBridge bridge mac) = of_bridge bridge_command.Add bridge (word (mac_text mac) ∷ [])
edit_rows (DelBridge bridge) = of_bridge bridge_command.Delete bridge []
edit_rows (SetBridge bridge change) = bridge_rows bridge change
edit_rows (AddPort port) = of_port port_command.Add port []
edit_rows (DelPort port) = of_port port_command.Delete port []
edit_rows (SetPort port change) = port_rows port change
edit_rows (AddLan lan) = of_lan port_command.AddLan lan []
edit_rows (DelLan lan) = of_lan port_command.DeleteLan lan []
edit_rows (SetLan lan change) = lan_rows lan change
edit_rows (Plug port lan) = of_port port_command.Plug port (word lan ∷ [])
edit_rows (Unplug port) = of_port port_command.Unplug port []
edit_rows (SetByTree change) = tree_rows change

abbrev pub edits_rows : List Edit → List Row
edits_rows edits = flat_map edit_rows edits

-- the first row says the version
abbrev pub first_row : Row
first_row = row_of (OfBridge bridge_command.Version) (number 2 ∷ [])

-- the rows that save a network, and those of a change
abbrev pub save_rows : Net → List Row
save_rows net = first_row ∷ edits_rows (saved_edits net)

abbrev pub change_rows : Net → Net → List Row
change_rows a b = first_row ∷ edits_rows (edits a b)
