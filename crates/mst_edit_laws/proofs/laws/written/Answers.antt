use Rattle.mst_edit_laws.proofs.LinesRead.{line_read}
use Rattle.mst_edit_laws.proofs.laws.written.Goals as goal

pub returns : goal.returns
returns c = line_read
