use Rattle.mst_topology.proofs.Exists.{exists}
use Rattle.mst_topology.proofs.Offers.{designated}
use Rattle.mst_outcome.proofs.laws.has_outcome.Goals as goal

pub returns-clause-vectors : goal.returns-clause-vectors
returns-clause-vectors g c = λ t ok tests. exists g.M.Metric.rules g.met.M.Metric.lawful t ok tests

pub returns-clause-ports : goal.returns-clause-ports
returns-clause-ports g c = λ t v ok tests lan. designated g.M.Metric.rules g.met.M.Metric.lawful t ok tests v lan
