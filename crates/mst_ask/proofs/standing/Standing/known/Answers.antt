use Rattle.mst_ask.proofs.Kept.{standing_is}
use Rattle.mst_ask.proofs.standing.Standing.known.Goals as goal

pub returns : goal.returns
returns c = standing_is (record { empty = c.networks.ensures.empty; networks = c.networks.ensures.after; ranges = c.edits_in_range.ensures }) c.args.self.now c.known.ensures
