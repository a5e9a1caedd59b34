use Rattle.mst_lag.proofs.PortsAlone.{set_made, plugged_made, unplugged_made}
use Rattle.mst_lag.proofs.laws.ports_alone.Goals as goal

pub returns-clause-set : goal.returns-clause-set
returns-clause-set c = set_made

pub returns-clause-plugged : goal.returns-clause-plugged
returns-clause-plugged c = plugged_made

pub returns-clause-unplugged : goal.returns-clause-unplugged
returns-clause-unplugged c = unplugged_made
