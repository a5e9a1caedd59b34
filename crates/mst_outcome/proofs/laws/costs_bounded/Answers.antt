use Rattle.mst_topology.proofs.Costs.{costs_bounded}
use Rattle.mst_outcome.proofs.laws.costs_bounded.Goals as goal

pub returns : goal.returns
returns g c = λ t v ok s. costs_bounded g.M.Metric.rules g.met.M.Metric.lawful t ok v s
