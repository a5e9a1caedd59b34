use Rattle.std.proofs.Common.{◌≡◌}
use Rattle.std.specs.List.{filter, range_with_len}
use Rattle.mst_forest.specs.InUse.{is_in_use}
use Rattle.mst_forest.proofs.in_use.mstis_in_use.Given as goal

-- the trees of which the numbers are up to the next
abbrev pub invariant-loop-index : goal.invariant-loop-index
invariant-loop-index l = l.trees.items ≡ filter (is_in_use l.view) (range_with_len 1 l.index)
