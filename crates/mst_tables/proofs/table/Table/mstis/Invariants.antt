use Rattle.std.proofs.Common.{◌≡◌}
use Rattle.std.specs.List.{filter, range_with_len}
use Rattle.mst_tables.specs.Table.{has_tree}
use Rattle.mst_tables.proofs.table.Table.mstis.Given as goal

-- the trees of which the numbers are up to the next
abbrev pub invariant-loop-index : goal.invariant-loop-index
invariant-loop-index l = l.trees.items ≡ filter (has_tree l.self) (range_with_len 1 l.index)
