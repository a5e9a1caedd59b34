use Rattle.mst_telling.proofs.NoneLost.{none_lost}
use Rattle.mst_telling.proofs.laws.no_reason_is_lost.Goals as goal

pub returns : goal.returns
returns c = none_lost
