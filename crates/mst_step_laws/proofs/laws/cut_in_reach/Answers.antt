use Rattle.mst_step_laws.proofs.ReachTold.{cut_in_reach, joined_in_reach}
use Rattle.mst_step_laws.proofs.laws.cut_in_reach.Goals as goal

pub returns-clause-cut : goal.returns-clause-cut
returns-clause-cut c = cut_in_reach c.one_outcome.ensures c.islands_of_vid.ensures.one

pub returns-clause-joined : goal.returns-clause-joined
returns-clause-joined c = joined_in_reach c.one_outcome.ensures c.islands_of_vid.ensures.one
