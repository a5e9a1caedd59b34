-- Which record a line asks for, and which record it was to add.
use Rattle.std.specs.Prelude.{ℕ, Bool, false, List, [], ◌∷◌, length, nat_lt, Option, None, Some, is_some, if◌then◌else◌, codes}
use Rattle.std.specs.Option.{option_map, option_and_then}
use Rattle.std.specs.Result.{result_ok}
use Rattle.mst_ids.specs.declared.name.PortName.{PortName}
use Rattle.mst_lang.specs.Arguments.{is_text, name, port_number}
use Rattle.mst_lang.specs.Forms.{command_of, port}
use Rattle.mst_lang.specs.Reading.{is_comment}
use Rattle.mst_lang.specs.Words.{words}
use Rattle.mst_lang.specs.declared.line.Line.{Line}
use Rattle.mst_lang.specs.declared.line.Line.TheVariants as lines
use Rattle.mst_lang.specs.declared.line.Edit.{Edit}
use Rattle.mst_lang.specs.declared.line.Edit.TheVariants.{AddBridge, DelBridge, SetBridge, AddPort, DelPort, SetPort, AddLan, DelLan, SetLan, Plug as PlugIn, Unplug, SetByTree}
use Rattle.mst_lang.specs.declared.line.Query.TheVariants.{ShowConfiguration}
use Rattle.mst_lang.specs.declared.line.TreeChange.{TreeChange}
use Rattle.mst_lang.specs.declared.line.TreeChange.TheVariants.{Priority, PortPriority, PortCost, Table, Vlans}
use Rattle.mst_net.specs.tables.Tables.{port_eq}
use Rattle.mst_net.specs.tables.declared.refusal.Refusal.{Refusal}
use Rattle.mst_net.specs.tables.declared.refusal.Refusal.TheVariants.{E04, E05, E06}
use Rattle.mst_hints.specs.Hints.{near_alone}
use Rattle.mst_hints.specs.declared.record.Record.{Record}
use Rattle.mst_hints.specs.declared.record.Record.TheVariants.{Bridge, Port, Lan, Plug}

-- ---- what a line asks for
-- the bridge that an edit asks for, the port and the LAN: those that have to be there before it
abbrev pub bridge_by_tree : TreeChange → List ℕ
bridge_by_tree (Priority bridge tree priority) = bridge
bridge_by_tree (PortPriority port tree priority) = port.bridge
bridge_by_tree (PortCost port tree cost) = port.bridge
bridge_by_tree (Table bridge tree vids) = bridge
bridge_by_tree (Vlans port vids) = port.bridge

abbrev pub bridge_for : Edit → Option (List ℕ)
bridge_for (AddBridge bridge mac) = None
bridge_for (DelBridge bridge) = Some bridge
bridge_for (SetBridge bridge change) = Some bridge
bridge_for (AddPort port) = Some port.bridge
bridge_for (DelPort port) = Some port.bridge
bridge_for (SetPort port change) = Some port.bridge
bridge_for (AddLan lan) = None
bridge_for (DelLan lan) = None
bridge_for (SetLan lan change) = None
bridge_for (PlugIn port lan) = Some port.bridge
bridge_for (Unplug port) = Some port.bridge
bridge_for (SetByTree change) = Some (bridge_by_tree change)

abbrev pub port_by_tree : TreeChange → Option PortName
port_by_tree (Priority bridge tree priority) = None
port_by_tree (PortPriority port tree priority) = Some port
port_by_tree (PortCost port tree cost) = Some port
port_by_tree (Table bridge tree vids) = None
port_by_tree (Vlans port vids) = Some port

abbrev pub port_for : Edit → Option PortName
port_for (AddBridge bridge mac) = None
port_for (DelBridge bridge) = None
port_for (SetBridge bridge change) = None
port_for (AddPort port) = None
port_for (DelPort port) = Some port
port_for (SetPort port change) = Some port
port_for (AddLan lan) = None
port_for (DelLan lan) = None
port_for (SetLan lan change) = None
port_for (PlugIn port lan) = Some port
port_for (Unplug port) = Some port
port_for (SetByTree change) = port_by_tree change

abbrev pub lan_for : Edit → Option (List ℕ)
lan_for (AddBridge bridge mac) = None
lan_for (DelBridge bridge) = None
lan_for (SetBridge bridge change) = None
lan_for (AddPort port) = None
lan_for (DelPort port) = None
lan_for (SetPort port change) = None
lan_for (AddLan lan) = None
lan_for (DelLan lan) = Some lan
lan_for (SetLan lan change) = Some lan
lan_for (PlugIn port lan) = Some lan
lan_for (Unplug port) = None
lan_for (SetByTree change) = None

-- the record that isn't there where an edit is refused so: E04 tells it of the bridge, E05 of the port, E06 of the LAN
abbrev pub missing_for : Edit → Refusal → Option Record
missing_for e E04 = option_map Bridge (bridge_for e)
missing_for e E05 = option_map Port (port_for e)
missing_for e E06 = option_map Lan (lan_for e)
missing_for e _ = None

-- and where a line that is read is: of the queries, the one for a bridge's configuration alone asks for a record
abbrev pub missing_of : Line → Refusal → Option Record
missing_of (lines.Edit e) refusal = missing_for e refusal
missing_of (lines.Query (ShowConfiguration bridge)) E04 = Some (Bridge bridge)
missing_of _ refusal = None

-- ---- what an edit makes
-- the record that it adds, or that it plugs a port
abbrev pub made_by : Edit → Option Record
made_by (AddBridge bridge mac) = Some (Bridge bridge)
made_by (DelBridge bridge) = None
made_by (SetBridge bridge change) = None
made_by (AddPort port) = Some (Port port)
made_by (DelPort port) = None
made_by (SetPort port change) = None
made_by (AddLan lan) = Some (Lan lan)
made_by (DelLan lan) = None
made_by (SetLan lan change) = None
made_by (PlugIn port lan) = Some (Plug port)
made_by (Unplug port) = None
made_by (SetByTree change) = None

-- ---- what a line was to add
-- by the words after the command: the record that they name, whatever follows
abbrev pub added_bridge : List (List ℕ) → Option Record
added_bridge [] = None
added_bridge (bridge ∷ others) = option_map Bridge (result_ok (name bridge))

abbrev pub port_of : Option (List ℕ) → Option ℕ → Option Record
port_of (Some bridge) (Some number) = Some (Port (port bridge number))
port_of _ _ = None

abbrev pub added_port : List (List ℕ) → Option Record
added_port [] = None
added_port (bridge ∷ []) = None
added_port (bridge ∷ number ∷ others) = port_of (result_ok (name bridge)) (result_ok (port_number number))

abbrev pub added_lan : List (List ℕ) → Option Record
added_lan [] = None
added_lan (lan ∷ others) = option_map Lan (result_ok (name lan))

-- by the command
abbrev pub added_by : List ℕ → List (List ℕ) → Option Record
added_by command arguments =
    if is_text command (codes "addbridge") then added_bridge arguments
    else (if is_text command (codes "addport") then added_port arguments else (if is_text command (codes "addlan") then added_lan arguments else None))

-- the command that a word is, or was to be: the nearest one where it is none and asks for nothing else
abbrev pub command_meant : List ℕ → Option (List ℕ)
command_meant word = if is_some (command_of word) then Some word else near_alone word

-- by the words of the line, of which a comment adds nothing
abbrev pub added_in : List (List ℕ) → Option Record
added_in [] = None
added_in (word ∷ arguments) = if is_comment word then None else option_and_then (λ command. added_by command arguments) (command_meant word)

-- the record that a line of at most 4,096 bytes was to add
abbrev pub added_of : List ℕ → Option Record
added_of line = if nat_lt 4096 (length line) then None else added_in (words line)

-- ---- whether two records are the same
abbrev pub same_record : Record → Record → Bool
same_record (Bridge a) (Bridge b) = is_text a b
same_record (Port p) (Port q) = port_eq p q
same_record (Lan a) (Lan b) = is_text a b
same_record (Plug p) (Plug q) = port_eq p q
same_record _ _ = false
