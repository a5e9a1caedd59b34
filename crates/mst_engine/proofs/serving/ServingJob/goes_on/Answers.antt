use Rattle.mst_engine.proofs.ServedBy.{none_told, some_told}
use Rattle.mst_engine.proofs.serving.ServingJob.goes_on.Goals as goal

pub returns-clause-nothing : goal.returns-clause-nothing
returns-clause-nothing c = none_told c.args.self.now c.args._number

pub returns-clause-some : goal.returns-clause-some
returns-clause-some c = some_told c.has_steps.ensures c.args.self.now c.args._number c.known.ensures
