use Rattle.mst_advise_laws.proofs.NoGreater.{no_greater}
use Rattle.mst_advise_laws.proofs.laws.priority_is_greatest.Goals as goal

pub returns : goal.returns
returns c = no_greater
