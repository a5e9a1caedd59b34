use Rattle.std.proofs.Common.{◌++◌, ◌∷◌, [], List, map, subst}
use Rattle.std.specs.Prelude.{OnOk}
use Rattle.mst_rows.specs.Rows.{cell, row_of}
use Rattle.mst_print.specs.Shape.{Grew}
use Rattle.mst_print.proofs.Shown.{more_lines, more_records}
use Rattle.mst_print.proofs.printer.PrinterRows.row.Goals as goal

pub returns-in-Lines : goal.returns-in-Lines
returns-in-Lines c first rows grew =
    more_lines (OnOk c.row.result) first c.in-Lines.out c.row.new.self rows (rows ++ row_of c.args.kind (map cell c.args.values.now) ∷ []) (λ f. c.row.ensures f rows) (subst (λ p. Grew first p rows) c.in-Lines.is grew)

pub returns-in-Records : goal.returns-in-Records
returns-in-Records c first rows grew =
    more_records (OnOk c.row-in-Records.result) first c.in-Records.json c.row-in-Records.new.self rows (rows ++ row_of c.args.kind (map cell c.args.values.now) ∷ []) (λ f. c.row-in-Records.ensures f rows) (subst (λ p. Grew first p rows) c.in-Records.is grew)
