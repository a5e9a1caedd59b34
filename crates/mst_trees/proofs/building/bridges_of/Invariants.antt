use Rattle.std.proofs.Common.{◌≡◌, ◌++◌}
use Rattle.mst_trees.proofs.building.bridges_of.Given as goal

-- the bridges so far are there, and the others are to come
abbrev pub invariant-loop-number : goal.invariant-loop-number
invariant-loop-number g l = l.bridges ++ l.number-iterator.rest.items ≡ l.fn.list.items
