use Rattle.std.proofs.Common.{◌≡◌, map}
use Rattle.std.specs.List.{flat_map, range_with_len}
use Rattle.mst_diff.specs.Seen.{roots_of, row_of_root}
use Rattle.mst_diff.proofs.all_roots.changed_roots.Given as goal

-- the rows of the trees so far
abbrev pub invariant-loop-number : goal.invariant-loop-number
invariant-loop-number l = map row_of_root l.changes.items ≡ flat_map (roots_of l.change.old.now l.change.new.now) (range_with_len 0 l.number)
