use Rattle.mst_trees.proofs.Keeping.{settled_once}
use Rattle.mst_trees.proofs.settling.forest_of.Goals as goal

pub returns-clause-once : goal.returns-clause-once
returns-clause-once c = settled_once c.empty-nothing.result c.empty-nothing.ensures.cist c.empty-nothing.ensures.mstis c.repaired_forest.result c.repaired_forest.ensures.bounds
