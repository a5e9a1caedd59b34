use Rattle.mst_sweep.proofs.Together.{failed_network, failed_numbered}
use Rattle.mst_sweep.proofs.failing.FailingContents.known.Goals as goal

pub returns-clause-network : goal.returns-clause-network
returns-clause-network c = failed_network c.args.self.now.failures.now c.args.self.now.network.now.net c.known.ensures.network

pub returns-clause-numbered : goal.returns-clause-numbered
returns-clause-numbered c = failed_numbered c.args.self.now.failures.now c.args.self.now.network.now.net c.args.self.now.network.now.numbers c.known.ensures.numbered
