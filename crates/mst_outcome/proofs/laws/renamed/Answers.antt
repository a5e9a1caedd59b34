use Rattle.mst_outcome.proofs.Renamed.{topology_renamed, vectors_renamed, ports_renamed}
use Rattle.mst_outcome.proofs.laws.renamed.Goals as goal

pub returns-clause-topology : goal.returns-clause-topology
returns-clause-topology g c = λ r t u ok h. topology_renamed g.M.Metric.rules t ok u r h

pub returns-clause-vectors : goal.returns-clause-vectors
returns-clause-vectors g c = λ r t u v w ok h sv sw. vectors_renamed g.M.Metric.rules t ok u r h g.met.M.Metric.lawful v w sv sw

pub returns-clause-ports : goal.returns-clause-ports
returns-clause-ports g c = λ r t u v w ok h sv sw. ports_renamed g.M.Metric.rules t ok u r h g.met.M.Metric.lawful v w sv sw
