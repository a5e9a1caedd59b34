use Rattle.mst_topology.proofs.Unique.{vectors_agree, ports_agree}
use Rattle.mst_outcome.proofs.laws.one_outcome.Goals as goal

pub returns-clause-vectors : goal.returns-clause-vectors
returns-clause-vectors g c = λ t v w ok sv sw. vectors_agree g.M.Metric.rules g.met.M.Metric.lawful t ok v w sv sw

pub returns-clause-ports : goal.returns-clause-ports
returns-clause-ports g c = λ t v w ok sv sw. ports_agree g.M.Metric.rules g.met.M.Metric.lawful t ok v w sv sw
