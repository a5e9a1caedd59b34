use Rattle.std.proofs.Common.{◌≡◌, ◌<◌, ℕ, take, get_or}
use Rattle.mst_classes.proofs.by_table.trees_of.Given as goal

abbrev pub invariant-loop-tree : goal.invariant-loop-tree
invariant-loop-tree l = record { trees : l.trees.items ≡ take l.tree-index l.table; small : (i : ℕ) → get_or l.trees.items i 0 < 16384 }
