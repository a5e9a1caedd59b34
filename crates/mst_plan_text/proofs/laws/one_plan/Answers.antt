use Rattle.mst_plan_text.proofs.OnePlan.{one_plan}
use Rattle.mst_plan_text.proofs.laws.one_plan.Goals as goal

pub returns : goal.returns
returns c net o rows other a b = one_plan net o (λ vid. c.islands_of_vid.ensures.one net o vid) c.group_lists.ensures.one rows other a b
