use Rattle.mst_rows.proofs.Cells.{cells_are}
use Rattle.mst_rows.proofs.rows.put.Goals as goal

pub returns : goal.returns
returns g c first before cells are grew = rw (← cells_are c.args.values.now cells are) (c.row.ensures first before grew)
