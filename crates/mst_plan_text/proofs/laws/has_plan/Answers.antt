use Rattle.mst_plan_text.proofs.OnePlan.{has_plan}
use Rattle.mst_plan_text.proofs.laws.has_plan.Goals as goal

pub returns : goal.returns
returns c net o ok = has_plan net o (λ vid. c.islands_of_vid.ensures.one net o vid) (λ vid. c.islands_of_vid.ensures.some net o vid ok) c.group_lists.ensures.some
