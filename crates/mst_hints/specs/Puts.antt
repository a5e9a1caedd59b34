-- What lines put into what: a bridge at a MAC address, a port onto a bridge, and a port into a LAN.
use Rattle.std.specs.Prelude.{ℕ, ◌==◌, ◌&&◌, Bool, false, List, [], ◌∷◌, ◌++◌, Option, Some, None, find}
use Rattle.std.specs.Option.{option_map, option_map_or, option_and_then}
use Rattle.std.specs.FinMap as fin
use Rattle.std.specs.Map.{lookup}
use Rattle.mst_ids.specs.declared.name.PortName.{PortName}
use Rattle.mst_lang.specs.Arguments.{is_text}
use Rattle.mst_lang.specs.declared.line.Edit.{Edit}
use Rattle.mst_lang.specs.declared.line.Edit.TheVariants.{AddBridge, DelBridge, SetBridge, AddPort, DelPort, SetPort, AddLan, DelLan, SetLan, Plug as PlugIn, Unplug, SetByTree}
use Rattle.mst_net.specs.tables.After.{has_port}
use Rattle.mst_net.specs.tables.Tables.{Net}
use Rattle.mst_hints.specs.declared.record.Record.{Record}
use Rattle.mst_hints.specs.declared.record.Record.TheVariants.{Bridge, Port}
use Rattle.mst_hints.specs.declared.puts.Holder.{Holder}
use Rattle.mst_hints.specs.declared.puts.Holder.TheVariants.{AtMac, OnBridge, InLan}

-- into what, and what
abbrev pub Put : Type 0
Put = Holder × Record

-- by an edit that is made
abbrev pub put_by : Edit → Option Put
put_by (AddBridge bridge mac) = Some (AtMac mac, Bridge bridge)
put_by (DelBridge bridge) = None
put_by (SetBridge bridge change) = None
put_by (AddPort port) = Some (OnBridge port.bridge, Port port)
put_by (DelPort port) = None
put_by (SetPort port change) = None
put_by (AddLan lan) = None
put_by (DelLan lan) = None
put_by (SetLan lan change) = None
put_by (PlugIn port lan) = Some (InLan lan, Port port)
put_by (Unplug port) = None
put_by (SetByTree change) = None

-- with that of one line more, which goes last
abbrev pub with_put : List Put → Option Put → List Put
with_put puts None = puts
with_put puts (Some put) = puts ++ put ∷ []

abbrev pub same_holder : Holder → Holder → Bool
same_holder (AtMac a) (AtMac b) = a == b
same_holder (OnBridge a) (OnBridge b) = is_text a b
same_holder (InLan a) (InLan b) = is_text a b
same_holder _ _ = false

-- the first that a line put there
abbrev pub first_put : Holder → List Put → Option Record
first_put holder puts = lookup (λ place. same_holder place holder) puts

-- ---- what is there
-- whether a bridge has a MAC address
abbrev pub has_mac : ℕ → Net → List ℕ → Bool
has_mac mac net bridge = option_map_or (λ row. row.mac == mac) (fin.get net.bridges bridge) false

-- the LAN that a port is in, and whether it is in this one
abbrev pub lan_of : Net → PortName → Option (List ℕ)
lan_of net port = option_and_then (λ row. row.lan) (fin.get net.ports port)

abbrev pub is_in_lan : Net → List ℕ → PortName → Bool
is_in_lan net lan port = option_map_or (λ own. is_text own lan) (lan_of net port) false

-- whether what was put there is there still
abbrev pub is_held : Net → Holder → Record → Bool
is_held net (AtMac mac) (Bridge bridge) = has_mac mac net bridge
is_held net (OnBridge bridge) (Port port) = has_port port net
is_held net (InLan lan) (Port port) = is_in_lan net lan port
is_held net _ _ = false

-- of what lines put there the first that is there still
abbrev pub held_by : List Put → Net → Holder → Option Record
held_by puts net holder = option_map (λ put. put.1) (find (λ put. same_holder put.0 holder && is_held net holder put.1) puts)
