use Rattle.mst_engine.proofs.OneComparison.{full_comparison}
use Rattle.mst_engine.proofs.laws.has_comparison.Goals as goal

pub returns : goal.returns
returns c = full_comparison c.has_list.ensures
