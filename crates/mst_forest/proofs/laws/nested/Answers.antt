use Rattle.mst_forest.proofs.NestedTrees.{is_settled, is_free}
use Rattle.mst_forest.proofs.laws.nested.Goals as goal

pub returns-clause-settled : goal.returns-clause-settled
returns-clause-settled c net o ok is = is_settled net ok c.one_outcome.ensures.ports o is

pub returns-clause-free : goal.returns-clause-free
returns-clause-free c net o ok is free = is_free net ok c.one_outcome.ensures.ports o is free
