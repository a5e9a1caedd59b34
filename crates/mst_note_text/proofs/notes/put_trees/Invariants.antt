use Rattle.std.proofs.Common.{List, ◌++◌}
use Rattle.std.specs.List.{flat_map, range_with_len}
use Rattle.mst_roles.specs.forest.Outcome.{trees_of}
use Rattle.mst_roles.specs.forest.Settled.{outcome_of}
use Rattle.mst_rows.specs.Rows.{Row}
use Rattle.mst_note_text.specs.AreDepths.{TreeDepths, AreDepths}
use Rattle.mst_note_text.specs.NotesText.{tree_notes}
use Rattle.mst_note_text.specs.contracts.notes.put_trees.{R-type}
use Rattle.mst_note_text.proofs.notes.put_trees.Given as goal

-- the notes on the trees so far
abbrev pub invariant-loop-number : goal.invariant-loop-number
invariant-loop-number g l =
    (d : TreeDepths) → AreDepths (trees_of l.plan.net (outcome_of l.plan)) d → (first : R-type g.row.R) (rows : List Row) → g.R.Rows.grew first l.fn.out rows
    → g.R.Rows.grew first l.out (rows ++ flat_map (tree_notes l.plan.net (outcome_of l.plan) d) (range_with_len 0 l.number))
