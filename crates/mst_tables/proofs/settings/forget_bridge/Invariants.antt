use Rattle.std.proofs.Common.{◌≡◌, ◌≤◌, ◌-◌, nat_eq}
use Rattle.std.specs.Map.{lookup}
use Rattle.std.specs.Cmp.Lexicographic.{pointwise}
use Rattle.mst_tables.specs.Tables.{BridgeTree, bridge_tree_eq}
use Rattle.mst_records.specs.Blocks.{in_block}
use Rattle.mst_tables.proofs.SetByTree.{left_below}
use Rattle.mst_tables.proofs.settings.forget_bridge.Given as goal

-- what is set for the bridge in a tree of these blocks is gone in each tree below the next
abbrev pub invariant-loop-number : goal.invariant-loop-number
invariant-loop-number l = record {
  gone : (q : BridgeTree) → lookup (bridge_tree_eq q) l.table.entries ≡ left_below (pointwise nat_eq l.bridge q.bridge) (in_block l.blocks q.tree) q.tree l.number (lookup (bridge_tree_eq q) l.fn.table.entries);
  within : l.number ≤ 4095;
}

abbrev pub decreases-loop-number : goal.decreases-loop-number
decreases-loop-number l = 4095 - l.number
