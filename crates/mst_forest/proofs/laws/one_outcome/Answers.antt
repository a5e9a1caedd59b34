use Rattle.mst_forest.proofs.Outcomes.{one_outcome}
use Rattle.mst_forest.proofs.laws.one_outcome.Goals as goal

pub returns : goal.returns
returns c net o p ok a b = one_outcome net ok c.one_outcome.ensures.vectors c.one_outcome.ensures.ports c.one_outcome-2.ensures.vectors c.one_outcome-2.ensures.ports o p a b
