use Rattle.mst_forest.proofs.Outcomes.{outcome_there}
use Rattle.mst_forest.proofs.laws.has_outcome.Goals as goal

pub returns : goal.returns
returns c net ok = outcome_there net ok c.has_outcome.ensures.vectors c.has_outcome.ensures.ports c.has_outcome-2.ensures.vectors c.has_outcome-2.ensures.ports
