use Rattle.mst_step_laws.proofs.CourseThere.{has_course}
use Rattle.mst_step_laws.proofs.laws.has_course.Goals as goal

pub returns : goal.returns
returns c = has_course c.networks.ensures.after c.has_outcome.ensures (λ net o is vid. c.islands_of_vid.ensures.some net o vid is) c.group_lists.ensures.some c.one_judgement.ensures.some
