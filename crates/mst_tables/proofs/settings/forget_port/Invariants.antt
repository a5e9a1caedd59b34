use Rattle.std.proofs.Common.{◌≡◌, ◌≤◌, ◌-◌}
use Rattle.std.specs.Map.{lookup}
use Rattle.mst_tables.specs.Tables.{port_eq, PortTree, port_tree_eq}
use Rattle.mst_records.specs.Blocks.{in_block}
use Rattle.mst_tables.proofs.SetByTree.{left_below}
use Rattle.mst_tables.proofs.settings.forget_port.Given as goal

-- what is set for the port in a tree of these blocks is gone in each tree below the next
abbrev pub invariant-loop-number : goal.invariant-loop-number
invariant-loop-number g l = record {
  gone : (q : PortTree) → lookup (port_tree_eq q) l.table.entries ≡ left_below (port_eq l.port q.port) (in_block l.blocks q.tree) q.tree l.number (lookup (port_tree_eq q) l.fn.table.entries);
  within : l.number ≤ 4095;
}

abbrev pub decreases-loop-number : goal.decreases-loop-number
decreases-loop-number g l = 4095 - l.number
