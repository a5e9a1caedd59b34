use Rattle.std.proofs.Common.{[], ◌∷◌}
use Rattle.mst_sweeping.proofs.WithFailures.{more_ahead, regions_too}
use Rattle.mst_sweeping.proofs.pairing.trees_of_second.Goals as goal

pub trees_ahead-requires-clause-seen : goal.trees_ahead-requires-clause-seen
trees_ahead-requires-clause-seen c =
    let network = c.args.pairing.now.network.now in
    more_ahead (c.args.first.now.failure ∷ []) c.args.second.now.failure network.net network.numbers c.args.seen.now c.requires.seen

pub trees_ahead-requires-clause-regions : goal.trees_ahead-requires-clause-regions
trees_ahead-requires-clause-regions c =
    let network = c.args.pairing.now.network.now in
    regions_too c.regions_stay.ensures.ahead (c.args.first.now.failure ∷ c.args.second.now.failure ∷ []) network.net network.numbers c.args.pairing.now.plan.now.regions c.requires.pairing.plan.regions
