use Rattle.mst_graph.proofs.ByKeys.{by_keys}
use Rattle.mst_graph.proofs.laws.renamed.Goals as goal

pub returns : goal.returns
returns g c = λ bridge_key lan_key bridges lans links islands bridges_apart lans_apart have a. by_keys bridge_key lan_key bridges lans bridges_apart lans_apart links have islands a
