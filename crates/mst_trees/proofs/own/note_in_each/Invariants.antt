use Rattle.std.proofs.Common.{take}
use Rattle.mst_view.specs.Trees.{is_among}
use Rattle.mst_trees.specs.Own.{IsNoted}
use Rattle.mst_trees.proofs.own.note_in_each.Given as goal

-- the port's settings are noted in the trees before the next
abbrev pub invariant-loop-tree : goal.invariant-loop-tree
invariant-loop-tree l = IsNoted (is_among (take l.tree-index l.trees)) l.view l.port l.initial.own.entries l.own.entries
