use Rattle.mst_nested.proofs.PortRoles.{designated_key, key_designated}
use Rattle.mst_nested.proofs.laws.designated_by_key.Goals as goal

pub returns-clause-key : goal.returns-clause-key
returns-clause-key g c = λ t v ok p o h d. designated_key g.M.Metric.rules g.met.M.Metric.lawful t ok v p o h d

pub returns-clause-port : goal.returns-clause-port
returns-clause-port g c = λ t v ok p o on h e. key_designated g.M.Metric.rules g.met.M.Metric.lawful t ok v p o on h e
