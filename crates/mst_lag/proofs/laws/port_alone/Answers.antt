use Rattle.mst_lag.proofs.PortAlone.{alone_made}
use Rattle.mst_lag.proofs.laws.port_alone.Goals as goal

pub returns : goal.returns
returns c = alone_made
