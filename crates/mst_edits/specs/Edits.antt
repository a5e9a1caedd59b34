-- The edits that make one network of another, in their order; and those that make a network of none.
use Rattle.std.specs.Prelude.{ℕ, ◌==◌, ◌&&◌, Bool, true, false, not, List, [], ◌∷◌, ◌++◌, is_some, Option, Some, None, nat_eq, if◌then◌else◌}
use Rattle.std.specs.List.{flat_map, filter, range_with_len}
use Rattle.std.specs.Option.{option_map_or}
use Rattle.std.specs.Bool.{beq}
use Rattle.std.specs.Cmp.Lexicographic.{pointwise}
use Rattle.std.specs.FinMap as fin
use Rattle.mst_ids.specs.declared.name.PortName.{PortName}
use Rattle.mst_lang.specs.declared.line.Edit.{Edit}
use Rattle.mst_lang.specs.declared.line.Edit.TheVariants.{AddBridge, DelBridge, SetBridge, AddPort, DelPort, SetPort, AddLan, DelLan, SetLan, Plug, Unplug, SetByTree}
use Rattle.mst_lang.specs.declared.line.BridgeChange.TheVariants.{Power as PowerOf, Kind as KindOf, SystemPriority, Configuration, MaxHops, MaxAge}
use Rattle.mst_lang.specs.declared.line.PortChange.TheVariants.{Key, PathCost, RestrictedRole}
use Rattle.mst_lang.specs.declared.line.LanChange.TheVariants.{State, Speed}
use Rattle.mst_lang.specs.declared.line.TreeChange.TheVariants.{Priority, PortPriority, PortCost, Vlans}
use Rattle.mst_net.specs.tables.After.{has_lan, table_of, vlans_of}
use Rattle.mst_net.specs.tables.Contents.{priority_of, port_priority_of, port_cost_of}
use Rattle.mst_net.specs.tables.Settings.{kind_of, power_of, state_of}
use Rattle.mst_net.specs.tables.Tables.{Net, BridgeRow, PortRow, LanRow, empty_net}
use Rattle.mst_net.specs.tables.declared.settings.PortSettings.{PortSettings}
use Rattle.mst_edits.specs.Staying.{bridge_stays, port_stays, plug_stays, lan_of, bridge_before, settings_before, lan_before, table_before, priority_before, port_priority_before, port_cost_before, vlans_before}
use Rattle.mst_edits.specs.TableLines.{table_edits}

-- an edit where a test holds
abbrev pub when : Bool → Edit → List Edit
when test edit = if test then edit ∷ [] else []

-- lists of edits, one after another
abbrev pub joined : List (List Edit) → List Edit
joined [] = []
joined (edits ∷ others) = edits ++ joined others

-- the ports of a bridge, by number
abbrev pub ports_of : Net → List ℕ → List PortName
ports_of net bridge = filter (λ port. pointwise nat_eq bridge port.bridge) (fin.keys net.ports)

-- ---- what goes
abbrev pub unplug_edits : Net → Net → PortName → List Edit
unplug_edits a b port = when (is_some (lan_of a port) && not (plug_stays a b port)) (Unplug port)

abbrev pub del_port_edits : Net → Net → PortName → List Edit
del_port_edits a b port = when (not (port_stays a b port)) (DelPort port)

abbrev pub del_lan_edits : Net → List ℕ → List Edit
del_lan_edits b lan = when (not (has_lan lan b)) (DelLan lan)

abbrev pub del_bridge_edits : Net → Net → List ℕ → List Edit
del_bridge_edits a b bridge = when (not (bridge_stays a b bridge)) (DelBridge bridge)

-- ---- what comes, and what is set where it isn't what it was
-- two costs, of which none is the automatic one
abbrev pub is_same_cost : Option ℕ → Option ℕ → Bool
is_same_cost (Some cost) (Some other) = cost == other
is_same_cost (Some cost) None = false
is_same_cost None (Some other) = false
is_same_cost None None = true

-- whether two configurations have one revision and one name
abbrev pub is_same_configuration : BridgeRow → BridgeRow → Bool
is_same_configuration row before = row.revision == before.revision && pointwise nat_eq row.conf_name before.conf_name

-- edits by tree, from tree 0 to 4094
unfoldable pub in_trees : (ℕ → List Edit) → List Edit
in_trees edits = flat_map edits (range_with_len 0 4095)

abbrev pub priority_edits : Net → Net → Bool → List ℕ → ℕ → List Edit
priority_edits a b stays bridge tree = when (not (priority_of b bridge tree == priority_before a stays bridge tree)) (SetByTree (Priority bridge tree (priority_of b bridge tree)))

abbrev pub port_cost_edits : Net → Net → Bool → PortName → ℕ → List Edit
port_cost_edits a b stays port tree = when (not (is_same_cost (port_cost_of b port tree) (port_cost_before a stays port tree))) (SetByTree (PortCost port tree (port_cost_of b port tree)))

abbrev pub port_priority_edits : Net → Net → Bool → PortName → ℕ → List Edit
port_priority_edits a b stays port tree =
    when (not (port_priority_of b port tree == port_priority_before a stays port tree)) (SetByTree (PortPriority port tree (port_priority_of b port tree)))

-- whether a bridge is on, and whether a LAN is up, where it is to be set here
abbrev pub power_here : Bool → List ℕ → BridgeRow → BridgeRow → List Edit
power_here here bridge before row = when (here && not (beq row.is_on before.is_on)) (SetBridge bridge (PowerOf (power_of row.is_on)))

abbrev pub state_here : Bool → List ℕ → LanRow → LanRow → List Edit
state_here here lan before row = when (here && not (beq row.is_up before.is_up)) (SetLan lan (State (state_of row.is_up)))

-- what is set of a bridge, of a port and of a LAN; states stand in their place, or come last
abbrev pub bridge_set : Bool → Net → Net → Bool → List ℕ → BridgeRow → BridgeRow → List (List Edit)
bridge_set in_place a b stays bridge before row =
    when (not stays) (AddBridge bridge row.mac)
    ∷ power_here in_place bridge before row
    ∷ when (not (beq row.is_rstp before.is_rstp)) (SetBridge bridge (KindOf (kind_of row.is_rstp)))
    ∷ when (not (row.system_priority == before.system_priority)) (SetBridge bridge (SystemPriority row.system_priority))
    ∷ when (not (is_same_configuration row before)) (SetBridge bridge (Configuration row.revision row.conf_name))
    ∷ table_edits bridge (table_before a stays bridge) (table_of b bridge)
    ∷ when (not (row.max_hops == before.max_hops)) (SetBridge bridge (MaxHops row.max_hops))
    ∷ when (not (row.max_age == before.max_age)) (SetBridge bridge (MaxAge row.max_age))
    ∷ in_trees (priority_edits a b stays bridge)
    ∷ []

abbrev pub port_set : Net → Net → Bool → PortName → PortSettings → PortSettings → List (List Edit)
port_set a b stays port before settings =
    when (not stays) (AddPort port)
    ∷ when (not (settings.key == before.key)) (SetPort port (Key settings.key))
    ∷ when (not (is_same_cost settings.external before.external)) (SetPort port (PathCost settings.external))
    ∷ in_trees (port_cost_edits a b stays port)
    ∷ in_trees (port_priority_edits a b stays port)
    ∷ when (not (pointwise beq (vlans_of b port) (vlans_before a stays port))) (SetByTree (Vlans port (vlans_of b port)))
    ∷ when (not (beq settings.is_restricted before.is_restricted)) (SetPort port (RestrictedRole settings.is_restricted))
    ∷ []

abbrev pub lan_set : Bool → Bool → List ℕ → LanRow → LanRow → List (List Edit)
lan_set in_place stays lan before row =
    when (not stays) (AddLan lan)
    ∷ state_here in_place lan before row
    ∷ when (not (row.speed == before.speed)) (SetLan lan (Speed row.speed))
    ∷ []

-- those of a record of the new network
abbrev pub bridge_settings : Bool → Net → Net → List ℕ → BridgeRow → List Edit
bridge_settings in_place a b bridge row = joined (bridge_set in_place a b (bridge_stays a b bridge) bridge (bridge_before a bridge row) row)

abbrev pub port_settings : Net → Net → PortName → PortRow → List Edit
port_settings a b port row = joined (port_set a b (port_stays a b port) port (settings_before a (port_stays a b port) port) row.settings)

abbrev pub lan_settings : Bool → Net → List ℕ → LanRow → List Edit
lan_settings in_place a lan row = joined (lan_set in_place (has_lan lan a) lan (lan_before a lan) row)

abbrev pub bridge_edits : Bool → Net → Net → List ℕ → List Edit
bridge_edits in_place a b bridge = option_map_or (bridge_settings in_place a b bridge) (fin.get b.bridges bridge) []

abbrev pub port_edits : Net → Net → PortName → List Edit
port_edits a b port = option_map_or (port_settings a b port) (fin.get b.ports port) []

abbrev pub lan_edits : Bool → Net → Net → List ℕ → List Edit
lan_edits in_place a b lan = option_map_or (lan_settings in_place a lan) (fin.get b.lans lan) []

-- a bridge, and its ports by number
abbrev pub bridge_part : Bool → Net → Net → List ℕ → List Edit
bridge_part in_place a b bridge = bridge_edits in_place a b bridge ++ flat_map (port_edits a b) (ports_of b bridge)

-- ---- plugs, and the states that come last
abbrev pub plug_edits : Net → Net → PortName → List Edit
plug_edits a b port = option_map_or (λ lan. when (not (plug_stays a b port)) (Plug port lan)) (lan_of b port) []

abbrev pub power_settings : Bool → Net → List ℕ → BridgeRow → List Edit
power_settings in_place a bridge row = power_here (not in_place) bridge (bridge_before a bridge row) row

abbrev pub power_edits : Bool → Net → Net → List ℕ → List Edit
power_edits in_place a b bridge = option_map_or (power_settings in_place a bridge) (fin.get b.bridges bridge) []

abbrev pub state_settings : Bool → Net → List ℕ → LanRow → List Edit
state_settings in_place a lan row = state_here (not in_place) lan (lan_before a lan) row

abbrev pub state_edits : Bool → Net → Net → List ℕ → List Edit
state_edits in_place a b lan = option_map_or (state_settings in_place a lan) (fin.get b.lans lan) []

-- ---- all of it
-- what goes: plugs and ports by bridge and number, and LANs and bridges by name
abbrev pub going : Net → Net → List (List Edit)
going a b =
    flat_map (unplug_edits a b) (fin.keys a.ports)
    ∷ flat_map (del_port_edits a b) (fin.keys a.ports)
    ∷ flat_map (del_lan_edits b) (fin.keys a.lans)
    ∷ flat_map (del_bridge_edits a b) (fin.keys a.bridges)
    ∷ []

-- what comes and is set: each bridge by name, with its ports, and each LAN; then plugs, and states where they come last
abbrev pub coming : Bool → Net → Net → List (List Edit)
coming in_place a b =
    flat_map (bridge_part in_place a b) (fin.keys b.bridges)
    ∷ flat_map (lan_edits in_place a b) (fin.keys b.lans)
    ∷ flat_map (plug_edits a b) (fin.keys b.ports)
    ∷ flat_map (power_edits in_place a b) (fin.keys b.bridges)
    ∷ flat_map (state_edits in_place a b) (fin.keys b.lans)
    ∷ []

-- all edits, with each state in its place or with states last
abbrev pub edits_with : Bool → Net → Net → List Edit
edits_with in_place a b = joined (going a b) ++ joined (coming in_place a b)

-- a change: states come last
abbrev pub edits : Net → Net → List Edit
edits a b = edits_with false a b

-- a network is saved as what comes of none, with each state in its place
abbrev pub saved_edits : Net → List Edit
saved_edits net = joined (coming true empty_net net)

-- whether there is an edit
abbrev pub has_any : List Edit → Bool
has_any [] = false
has_any (edit ∷ others) = true
