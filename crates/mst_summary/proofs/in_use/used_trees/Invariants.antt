use Rattle.std.proofs.Common.{◌≡◌}
use Rattle.std.specs.List.{filter, range_with_len}
use Rattle.mst_summary.specs.Seen.{seen_used}
use Rattle.mst_summary.proofs.in_use.used_trees.Given as goal

-- those of the trees so far
abbrev pub invariant-loop-number : goal.invariant-loop-number
invariant-loop-number l = l.trees.items ≡ filter (seen_used l.view) (range_with_len 0 l.number)
