use Rattle.mst_outcome.proofs.PartsAlone.{settled_there, designated_there}
use Rattle.mst_outcome.proofs.laws.parts_alone.Goals as goal

pub returns-clause-vectors : goal.returns-clause-vectors
returns-clause-vectors g c = λ t u v h s. settled_there g.M.Metric.rules v t u h s

pub returns-clause-ports : goal.returns-clause-ports
returns-clause-ports g c = λ t u v lan p h d. designated_there g.M.Metric.rules v t u h lan p d
