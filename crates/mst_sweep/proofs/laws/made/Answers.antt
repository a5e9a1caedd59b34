use Rattle.mst_sweep.proofs.Made.{failure_made, failures_made}
use Rattle.mst_sweep.proofs.Together.{failed_network}
use Rattle.mst_sweep.proofs.laws.made.Goals as goal

pub returns-clause-all : goal.returns-clause-all
returns-clause-all g net those h = failures_made net those h

pub returns-clause-one : goal.returns-clause-one
returns-clause-one g net failure h = failure_made net failure h

pub returns-clause-network : goal.returns-clause-network
returns-clause-network g net those is = failed_network those net is
