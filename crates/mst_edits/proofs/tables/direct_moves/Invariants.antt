use Rattle.std.proofs.Common.{◌≡◌, ◌++◌, take}
use Rattle.std.specs.List.{flat_map}
use Rattle.mst_edits.specs.TableLines.{moved_to, moves_to}
use Rattle.mst_edits.proofs.tables.direct_moves.Given as goal

-- the lines of tree 0, and of the trees before it
abbrev pub invariant-loop-tree : goal.invariant-loop-tree
invariant-loop-tree l = l.moves.items ≡ moves_to l.name 0 (moved_to l.before l.after 0) ++ flat_map (λ tree. moves_to l.name tree (moved_to l.before l.after tree)) (take l.tree-index l.tree-items)
