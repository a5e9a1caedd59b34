use Rattle.mst_sweeping.proofs.OneRisks.{one_risks}
use Rattle.mst_sweeping.proofs.SweepThere.{has_risks}
use Rattle.mst_sweeping.proofs.laws.one_risk_sweep.Goals as goal

pub returns-clause-some : goal.returns-clause-some
returns-clause-some c net risks is = has_risks net is c.has_outcome.ensures c.one_event.ensures.some risks

pub returns-clause-one : goal.returns-clause-one
returns-clause-one c net risks rows other n m ok a b = one_risks net ok a.outcome b.outcome a.is_outcome b.is_outcome c.one_event.ensures.one risks rows other n m a.told b.told
