use Rattle.mst_graph.proofs.HasList.{has_islands}
use Rattle.mst_graph.proofs.laws.some_islands.Goals as goal

pub returns : goal.returns
returns c = λ bridges lans links have. has_islands bridges lans links have
