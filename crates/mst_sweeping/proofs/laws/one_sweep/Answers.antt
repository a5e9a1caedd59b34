use Rattle.mst_sweeping.proofs.SweepThere.{has_sweep}
use Rattle.mst_sweeping.proofs.laws.one_sweep.Goals as goal

pub returns-clause-some : goal.returns-clause-some
returns-clause-some c = λ net is. has_sweep net is c.has_outcome.ensures c.one_event.ensures.some

pub returns-clause-one : goal.returns-clause-one
returns-clause-one c = λ net rows other n m ok a b. c.one_sweep.ensures net a.outcome b.outcome rows other n m ok a.is_outcome b.is_outcome a.told b.told
