-- Edits that set what stands already.
use Rattle.std.specs.Prelude.{◌≡◌}
use Rattle.std.specs.Option.{ForSome}
use Rattle.std.specs.FinMap as fin
use Rattle.mst_lang.specs.declared.line.Edit.{Edit}
use Rattle.mst_lang.specs.declared.line.Edit.TheVariants.{SetBridge, SetPort, SetLan, SetByTree}
use Rattle.mst_lang.specs.declared.line.TreeChange.TheVariants.{Priority, PortPriority, PortCost, Table, Vlans}
use Rattle.mst_tables.specs.Table.{mapped}
use Rattle.mst_tables.specs.Tables.{Net}
use Rattle.mst_tables.specs.After.{table_of, vlans_of, bridge_with, port_with, lan_with}
use Rattle.mst_tables.specs.Contents.{priority_of, port_priority_of, port_cost_of}

-- what the edit sets stands already: its bridge, LAN or port, if it is there, stays the same with the new
-- setting; the priority, the cost or the VLANs are those that are seen, set or the default; the table of the
-- bridge stays the same with its VIDs in the tree. Nothing that an edit adds, takes away, plugs or unplugs
-- stands already
abbrev pub Stands : Edit → Net → Type 0
Stands (SetBridge bridge change) net = ForSome (fin.get net.bridges bridge) (λ row. bridge_with change row ≡ row)
Stands (SetPort port change) net = ForSome (fin.get net.ports port) (λ row. port_with change row ≡ row)
Stands (SetLan lan change) net = ForSome (fin.get net.lans lan) (λ row. lan_with change row ≡ row)
Stands (SetByTree (Priority bridge tree priority)) net = priority_of net bridge tree ≡ priority
Stands (SetByTree (PortPriority port tree priority)) net = port_priority_of net port tree ≡ priority
Stands (SetByTree (PortCost port tree cost)) net = port_cost_of net port tree ≡ cost
Stands (SetByTree (Table bridge tree vids)) net = mapped vids tree (table_of net bridge) ≡ table_of net bridge
Stands (SetByTree (Vlans port vids)) net = vlans_of net port ≡ vids
Stands _ net = ⊥
