use Rattle.mst_questions.proofs.Explained.{one_list, some_explains}
use Rattle.mst_questions.proofs.laws.one_explanation.Goals as goal

pub returns-clause-some : goal.returns-clause-some
returns-clause-some c = some_explains c.some_explained.ensures.all c.has_outcome.ensures

pub returns-clause-one : goal.returns-clause-one
returns-clause-one c = one_list c.one_explained.ensures.all
