use Rattle.mst_lag.proofs.LanAlone.{alone_ahead, alone_back, alone_made}
use Rattle.mst_lag.proofs.laws.lan_alone.Goals as goal

pub returns-clause-ahead : goal.returns-clause-ahead
returns-clause-ahead c = alone_ahead

pub returns-clause-back : goal.returns-clause-back
returns-clause-back c = alone_back

pub returns-clause-made : goal.returns-clause-made
returns-clause-made c = alone_made
