use Rattle.std.proofs.Common.{◌≡◌, map, take}
use Rattle.mst_sweeping.specs.Seen.{turning_of}
use Rattle.mst_sweeping.specs.Turns.{lists_of}
use Rattle.mst_sweeping.proofs.turns.lists_of.Given as goal

-- the lists of the trees so far
abbrev pub invariant-loop-in_tree : goal.invariant-loop-in_tree
invariant-loop-in_tree l = map (λ list. list.items) l.lists.items ≡ lists_of (map turning_of (take l.in_tree-index l.turning))
