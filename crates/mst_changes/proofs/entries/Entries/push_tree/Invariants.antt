use Rattle.std.proofs.Common.{◌≡◌, ◌++◌, take}
use Rattle.mst_changes.proofs.ByTree.{so_far}
use Rattle.mst_changes.proofs.entries.Entries.push_tree.Given as goal

-- the entries of the tree in what was gone over
abbrev pub invariant-loop-kept : goal.invariant-loop-kept
invariant-loop-kept l = l.entries.items ≡ l.fn.entries.items ++ so_far l.self.bridges.items l.self.ports.items l.tree (take l.kept-index l.self.trees.items)
