use Rattle.mst_graph.proofs.OneList.{one_islands}
use Rattle.mst_graph.proofs.Orders.{islands_in_order}
use Rattle.mst_graph.proofs.laws.island_lists.Goals as goal

pub returns : goal.returns
returns g c = record {
  one = λ bridges lans links islands others bridges_once lans_once a b. one_islands _ _ bridges lans links islands others bridges_once lans_once a b;
  order = λ bridges lans links islands a. islands_in_order bridges lans links islands a;
}
