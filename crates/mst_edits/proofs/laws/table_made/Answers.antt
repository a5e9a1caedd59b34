use Rattle.mst_edits.proofs.TablesMade.{lines_make}
use Rattle.mst_edits.proofs.laws.table_made.Goals as goal

pub returns : goal.returns
returns c bridge before after named long is = lines_make bridge named after is.0 before long is.1
