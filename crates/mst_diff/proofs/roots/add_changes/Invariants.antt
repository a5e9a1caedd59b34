use Rattle.std.proofs.Common.{◌≡◌, ◌++◌, map, take}
use Rattle.std.specs.List.{flat_map}
use Rattle.mst_diff.specs.Roots.{root_unless}
use Rattle.mst_diff.specs.Seen.{row_of_root}
use Rattle.mst_diff.proofs.roots.add_changes.Given as goal

-- the rows of the pairs so far
abbrev pub invariant-loop-pair : goal.invariant-loop-pair
invariant-loop-pair l = map row_of_root l.changes.items ≡ map row_of_root l.fn.changes.items ++ flat_map (root_unless l.tree) (take l.pair-index l.pairs)
