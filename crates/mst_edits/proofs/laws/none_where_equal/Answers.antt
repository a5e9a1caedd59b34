use Rattle.mst_edits.proofs.Equal.{no_edits}
use Rattle.mst_edits.proofs.laws.none_where_equal.Goals as goal

pub returns : goal.returns
returns c net is = no_edits net is
