use Rattle.mst_tables.proofs.AfterLemmas.{no_network, after_is_network}
use Rattle.mst_net.proofs.laws.networks.Goals as goal

pub returns-clause-empty : goal.returns-clause-empty
returns-clause-empty c = no_network

pub returns-clause-after : goal.returns-clause-after
returns-clause-after c edit net new fits is e = after_is_network net is edit new fits e
