use Rattle.mst_rows.proofs.Cells.{cells_are}
use Rattle.mst_rows.proofs.answer.Json.open.Goals as goal

pub returns : goal.returns
returns c cells are = rw (← cells_are c.args.words.now cells are) c.begun.ensures
