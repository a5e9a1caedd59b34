use Rattle.mst_sweeping.proofs.WithFailures.{regions_too}
use Rattle.mst_sweeping.proofs.failing.trees_failed.Goals as goal

pub repaired-requires-clause-regions : goal.repaired-requires-clause-regions
repaired-requires-clause-regions c = regions_too c.regions_stay.ensures.ahead c.args.failures.now c.args.network.now.net c.args.network.now.numbers c.args.plan.now.regions c.requires.of.regions
