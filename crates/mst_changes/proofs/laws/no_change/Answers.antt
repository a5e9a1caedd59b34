use Rattle.mst_changes.proofs.Same.{no_rows}
use Rattle.mst_changes.proofs.laws.no_change.Goals as goal

pub returns : goal.returns
returns c = λ a o. no_rows a o
