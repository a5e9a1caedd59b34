use Rattle.mst_step_laws.proofs.Unkept.{enough}
use Rattle.mst_step_laws.proofs.laws.told_is_enough.Goals as goal

pub returns : goal.returns
returns c = enough
