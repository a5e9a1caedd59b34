use Rattle.mst_forest.proofs.SettledNet.{is_settled_net}
use Rattle.mst_forest.proofs.settled.Settled.new.Goals as goal

pub invariant_of-result : goal.invariant_of-result
invariant_of-result c = is_settled_net _ _ _ _ c.requires.of c.requires.forest
