use Rattle.std.proofs.Common.{List, ◌++◌}
use Rattle.std.specs.List.{flat_map, range_with_len}
use Rattle.mst_rows.specs.Rows.{Row}
use Rattle.mst_note_text.specs.SeenNotes.{notes_at}
use Rattle.mst_note_text.specs.contracts.bridge.put_members.{R-type}
use Rattle.mst_note_text.proofs.bridge.put_members.Given as goal

-- the notes on the bridges so far
abbrev pub invariant-loop-place : goal.invariant-loop-place
invariant-loop-place g l =
    (first : R-type g.row.R) (rows : List Row) → g.R.Rows.grew first l.fn.out rows
    → g.R.Rows.grew first l.out (rows ++ flat_map (notes_at l.bridges l.macs.entries l.tree l.members l.depths) (range_with_len 0 l.place))
