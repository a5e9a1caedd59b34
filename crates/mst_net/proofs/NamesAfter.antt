-- The names of the records after an edit that adds none of their kind and takes none away.
use Rattle.std.proofs.Common.{◌≡◌, ℕ, List, Some, None, refl}
use Rattle.std.specs.FinMap as fin
use Rattle.mst_ids.specs.declared.name.PortName.{PortName}
use Rattle.mst_lang.specs.declared.line.Edit.{Edit}
use Rattle.mst_lang.specs.declared.line.Edit.TheVariants.{AddBridge, DelBridge, SetBridge, AddPort, DelPort, SetPort, AddLan, DelLan, SetLan, Plug, Unplug, SetByTree}
use Rattle.mst_tables.specs.Tables.{Net}
use Rattle.mst_tables.specs.After.{effect, bridge_with, port_with, lan_with, in_lan}
use Rattle.mst_tables.proofs.Keys.{names, ports}
use Rattle.mst_tables.proofs.NamesInOrder.{names_stay}

pub bridge_names_stay : (e : Edit) (net : Net) → ((bridge : List ℕ) (mac : ℕ) → e ≡ AddBridge bridge mac → ⊥) → ((bridge : List ℕ) → e ≡ DelBridge bridge → ⊥) → fin.keys net.bridges ≡ fin.keys (effect e net).bridges
bridge_names_stay (AddBridge bridge mac) net added gone = absurd (added bridge mac refl)
bridge_names_stay (DelBridge bridge) net added gone = absurd (gone bridge refl)
bridge_names_stay (SetBridge bridge change) net added gone = names_stay names net.bridges bridge (bridge_with change)
bridge_names_stay (AddPort port) net added gone = refl
bridge_names_stay (DelPort port) net added gone = refl
bridge_names_stay (AddLan lan) net added gone = refl
bridge_names_stay (DelLan lan) net added gone = refl
bridge_names_stay (SetLan lan change) net added gone = refl
bridge_names_stay (Plug port lan) net added gone = refl
bridge_names_stay (Unplug port) net added gone = refl
bridge_names_stay (SetPort port change) net added gone = refl
bridge_names_stay (SetByTree change) net added gone = refl

pub port_names_stay : (e : Edit) (net : Net) → ((port : PortName) → e ≡ AddPort port → ⊥) → ((port : PortName) → e ≡ DelPort port → ⊥) → fin.keys net.ports ≡ fin.keys (effect e net).ports
port_names_stay (AddBridge bridge mac) net added gone = refl
port_names_stay (DelBridge bridge) net added gone = refl
port_names_stay (SetBridge bridge change) net added gone = refl
port_names_stay (AddPort port) net added gone = absurd (added port refl)
port_names_stay (DelPort port) net added gone = absurd (gone port refl)
port_names_stay (AddLan lan) net added gone = refl
port_names_stay (DelLan lan) net added gone = refl
port_names_stay (SetLan lan change) net added gone = refl
port_names_stay (Plug port lan) net added gone = names_stay ports net.ports port (in_lan (Some lan))
port_names_stay (Unplug port) net added gone = names_stay ports net.ports port (in_lan None)
port_names_stay (SetPort port change) net added gone = names_stay ports net.ports port (port_with change)
port_names_stay (SetByTree change) net added gone = refl

pub lan_names_stay : (e : Edit) (net : Net) → ((lan : List ℕ) → e ≡ AddLan lan → ⊥) → ((lan : List ℕ) → e ≡ DelLan lan → ⊥) → fin.keys net.lans ≡ fin.keys (effect e net).lans
lan_names_stay (AddBridge bridge mac) net added gone = refl
lan_names_stay (DelBridge bridge) net added gone = refl
lan_names_stay (SetBridge bridge change) net added gone = refl
lan_names_stay (AddPort port) net added gone = refl
lan_names_stay (DelPort port) net added gone = refl
lan_names_stay (AddLan lan) net added gone = absurd (added lan refl)
lan_names_stay (DelLan lan) net added gone = absurd (gone lan refl)
lan_names_stay (SetLan lan change) net added gone = names_stay names net.lans lan (lan_with change)
lan_names_stay (Plug port lan) net added gone = refl
lan_names_stay (Unplug port) net added gone = refl
lan_names_stay (SetPort port change) net added gone = refl
lan_names_stay (SetByTree change) net added gone = refl
