use Rattle.std.proofs.Common.{List, ◌++◌}
use Rattle.std.specs.List.{flat_map, range_with_len}
use Rattle.mst_rows.specs.Rows.{Row}
use Rattle.mst_tables.specs.Tables.{Net}
use Rattle.mst_roles.specs.forest.Outcome.{Outcome}
use Rattle.mst_roles.specs.forest.Settled.{outcome_of}
use Rattle.mst_changes.specs.Kept.{AreEntries}
use Rattle.mst_changes.specs.TreeChanges.{tree_changes}
use Rattle.mst_changes.specs.contracts.changes.put_changes.{R-type}
use Rattle.mst_changes.proofs.changes.put_changes.Given as goal

-- the rows of the trees so far
abbrev pub invariant-loop-number : goal.invariant-loop-number
invariant-loop-number g l =
    (a : Net) (o : Outcome) → AreEntries a o l.old → (first : R-type g.row.R) (rows : List Row) → g.R.Rows.grew first l.fn.out rows
    → g.R.Rows.grew first l.out (rows ++ flat_map (tree_changes a o l.new.net (outcome_of l.new)) (range_with_len 0 l.number))
