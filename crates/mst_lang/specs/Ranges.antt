-- The ranges of what an edit says, which hold of every edit that a line says.
use Rattle.std.specs.Prelude.{ℕ, List, ◌^◌, ◌<◌, ◌≤◌, ⊤, IsTrue}
use Rattle.std.specs.Option.{ForSome}
use Rattle.mst_ids.specs.Texts.{is_name, is_conf_name}
use Rattle.mst_ids.specs.Vids.{IsVidSet}
use Rattle.mst_ids.specs.declared.name.PortName.{PortName}
use Rattle.mst_lang.specs.declared.line.Edit.{Edit}
use Rattle.mst_lang.specs.declared.line.Edit.TheVariants.{AddBridge, DelBridge, SetBridge, AddPort, DelPort, SetPort, AddLan, DelLan, SetLan, Plug, Unplug, SetByTree}
use Rattle.mst_lang.specs.declared.line.BridgeChange.{BridgeChange}
use Rattle.mst_lang.specs.declared.line.BridgeChange.TheVariants.{SystemPriority, Configuration, MaxHops, MaxAge}
use Rattle.mst_lang.specs.declared.line.PortChange.{PortChange}
use Rattle.mst_lang.specs.declared.line.PortChange.TheVariants.{Key, PathCost}
use Rattle.mst_lang.specs.declared.line.LanChange.{LanChange}
use Rattle.mst_lang.specs.declared.line.LanChange.TheVariants.{Speed}
use Rattle.mst_lang.specs.declared.line.TreeChange.{TreeChange}
use Rattle.mst_lang.specs.declared.line.TreeChange.TheVariants.{Priority, PortPriority, PortCost, Table, Vlans}

-- a text in the form of names: 1 to 16 letters, digits, `_`, `-` and `.`, the first a letter or a digit
abbrev pub IsName : List ℕ → Type 0
IsName text = IsTrue (is_name text)

-- a port: its bridge's name is in form, and its number is 1 to 4095
abbrev pub IsPort : PortName → Type 0
IsPort port = IsName port.bridge × (1 ≤ port.number) × (port.number ≤ 4095)

-- the bridge, the port or the LAN that an edit is of is named in form
abbrev pub NamesFit : Edit → Type 0
NamesFit (AddBridge bridge mac) = IsName bridge
NamesFit (DelBridge bridge) = IsName bridge
NamesFit (SetBridge bridge change) = IsName bridge
NamesFit (AddPort port) = IsPort port
NamesFit (DelPort port) = IsPort port
NamesFit (SetPort port change) = IsPort port
NamesFit (AddLan lan) = IsName lan
NamesFit (DelLan lan) = IsName lan
NamesFit (SetLan lan change) = IsName lan
NamesFit (Plug port lan) = IsPort port × IsName lan
NamesFit (Unplug port) = IsPort port
NamesFit (SetByTree (Priority bridge tree priority)) = IsName bridge
NamesFit (SetByTree (PortPriority port tree priority)) = IsPort port
NamesFit (SetByTree (PortCost port tree cost)) = IsPort port
NamesFit (SetByTree (Table bridge tree vids)) = IsName bridge
NamesFit (SetByTree (Vlans port vids)) = IsPort port

-- what is set is in its range: a speed is 1 to 9,999,999,999 kb/s, a key, a system priority and a revision have
-- 16 bits, a priority is 0 to 15, a path cost 1 to 200,000,000, a tree 0 to 4094, a limit 6 to 40, the name of a
-- configuration has 1 to 32 bytes of 21 to 7E hexadecimal, and VIDs are 1 to 4094
abbrev pub BridgeFits : BridgeChange → Type 0
BridgeFits (SystemPriority priority) = priority < 2 ^ 16
BridgeFits (Configuration revision name) = (revision < 2 ^ 16) × IsTrue (is_conf_name name)
BridgeFits (MaxHops limit) = (6 ≤ limit) × (limit ≤ 40)
BridgeFits (MaxAge limit) = (6 ≤ limit) × (limit ≤ 40)
BridgeFits _ = ⊤

abbrev pub PortFits : PortChange → Type 0
PortFits (Key key) = key < 2 ^ 16
PortFits (PathCost cost) = ForSome cost (λ c. (1 ≤ c) × (c ≤ 200_000_000))
PortFits _ = ⊤

abbrev pub LanFits : LanChange → Type 0
LanFits (Speed speed) = (1 ≤ speed) × (speed ≤ 9_999_999_999)
LanFits _ = ⊤

abbrev pub TreeFits : TreeChange → Type 0
TreeFits (Priority bridge tree priority) = (tree ≤ 4094) × (priority ≤ 15)
TreeFits (PortPriority port tree priority) = (tree ≤ 4094) × (priority ≤ 15)
TreeFits (PortCost port tree cost) = (tree ≤ 4094) × ForSome cost (λ c. (1 ≤ c) × (c ≤ 200_000_000))
TreeFits (Table bridge tree vids) = (tree ≤ 4094) × IsVidSet vids
TreeFits (Vlans port vids) = IsVidSet vids

-- and a MAC has 48 bits
abbrev pub ValuesFit : Edit → Type 0
ValuesFit (AddBridge bridge mac) = mac < 2 ^ 48
ValuesFit (SetBridge bridge change) = BridgeFits change
ValuesFit (SetPort port change) = PortFits change
ValuesFit (SetLan lan change) = LanFits change
ValuesFit (SetByTree change) = TreeFits change
ValuesFit _ = ⊤

-- all that the edit says is in its range
pub record InRange (edit : Edit) : Type 0 where
  pub names : NamesFit edit
  pub values : ValuesFit edit
