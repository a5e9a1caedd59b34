use Rattle.std.proofs.Common.{refl}
use Rattle.mst_compare.proofs.laws.configuration.Goals as goal

pub returns : goal.returns
returns c row table = refl
