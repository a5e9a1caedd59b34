use Rattle.std.proofs.Common.{◌≡◌, not, take}
use Rattle.std.specs.List.{filter}
use Rattle.mst_net.specs.tables.Table.{has_tree}
use Rattle.mst_edits.proofs.trees.unwanted.Given as goal

abbrev pub invariant-loop-tree : goal.invariant-loop-tree
invariant-loop-tree l = l.others.items ≡ filter (λ tree. not (has_tree l.after tree)) (take l.tree-index l.tree-items)
