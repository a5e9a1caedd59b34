use Rattle.mst_net.proofs.StandingLemmas.{standing_same}
use Rattle.mst_net.proofs.laws.same_setting.Goals as goal

pub returns : goal.returns
returns c = standing_same
