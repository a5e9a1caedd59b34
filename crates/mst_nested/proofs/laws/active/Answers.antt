use Rattle.mst_nested.specs.Ports.{port_ends}
use Rattle.mst_graph.proofs.Walks.{replaced}
use Rattle.mst_nested.proofs.Vid.{active_has_no_loop}
use Rattle.mst_nested.proofs.Joins.{active_joins}
use Rattle.mst_nested.proofs.laws.active.Goals as goal

pub returns-clause-joined : goal.returns-clause-joined
returns-clause-joined g c = λ f tree tests ok free of_vid. active_joins f tests ok free tree of_vid

pub returns-clause-no_loop : goal.returns-clause-no_loop
returns-clause-no_loop g c = λ f tree tests ok free of_vid. active_has_no_loop f tests ok free tree of_vid

pub returns-clause-sets : goal.returns-clause-sets
returns-clause-sets g c = λ f tree tests ok free of_vid x y walk. replaced port_ends (active_joins f tests ok free tree of_vid) walk
