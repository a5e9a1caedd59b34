use Rattle.std.proofs.Common.{[], ◌∷◌}
use Rattle.mst_sweeping.proofs.WithFailures.{less_back}
use Rattle.mst_sweeping.proofs.pairing.back_to_first.Goals as goal

pub renew-requires : goal.renew-requires
renew-requires c = less_back (c.args.first.now ∷ []) c.args.second.now c.args.network.now.net c.args.network.now.numbers c.args.seen.now c.requires
