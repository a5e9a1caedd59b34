use Rattle.mst_tool.proofs.StatusLaws.{good, others, unserved}
use Rattle.mst_tool.proofs.status_laws.statuses.Goals as goal

pub returns-clause-good : goal.returns-clause-good
returns-clause-good c = good

pub returns-clause-unserved : goal.returns-clause-unserved
returns-clause-unserved c = unserved

pub returns-clause-others : goal.returns-clause-others
returns-clause-others c = others
