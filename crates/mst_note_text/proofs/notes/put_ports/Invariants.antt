use Rattle.std.proofs.Common.{List, ◌++◌, take}
use Rattle.std.specs.List.{flat_map}
use Rattle.mst_view.specs.Viewed.{named_port}
use Rattle.mst_rows.specs.Rows.{Row}
use Rattle.mst_note_text.specs.NotesText.{restricted_note}
use Rattle.mst_note_text.specs.contracts.notes.put_ports.{R-type}
use Rattle.mst_note_text.proofs.notes.put_ports.Given as goal

-- the notes on the ports so far
abbrev pub invariant-loop-port : goal.invariant-loop-port
invariant-loop-port g l =
    (first : R-type g.row.R) (rows : List Row) → g.R.Rows.grew first l.fn.out rows → g.R.Rows.grew first l.out (rows ++ flat_map (λ p. restricted_note (named_port p)) (take l.port-index l.ports))
