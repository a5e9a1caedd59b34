use Rattle.mst_vlan.proofs.IslandLaw.{has_list, one_list}
use Rattle.mst_vlan.proofs.laws.islands_of_vid.Goals as goal

pub returns-clause-some : goal.returns-clause-some
returns-clause-some c net o vid ok = has_list net o vid ok

pub returns-clause-one : goal.returns-clause-one
returns-clause-one c net o vid islands others a b = one_list net o vid islands others a b
