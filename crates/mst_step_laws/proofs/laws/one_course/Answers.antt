use Rattle.mst_step_laws.proofs.Courses.{one_course}
use Rattle.mst_step_laws.proofs.laws.one_course.Goals as goal

pub returns : goal.returns
returns c = one_course c.networks.ensures.after c.one_judgement.ensures.one c.one_step.ensures c.one_outcome.ensures
