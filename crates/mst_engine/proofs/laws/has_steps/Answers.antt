use Rattle.mst_engine.proofs.Steps.{always_runs}
use Rattle.mst_engine.proofs.laws.has_steps.Goals as goal

pub returns : goal.returns
returns c = always_runs c.has_run.ensures.lines c.has_load.ensures.lines c.has_comparison.ensures
