use Rattle.mst_text.proofs.VlanOnce.{has_body, has_vlan}
use Rattle.mst_text.proofs.laws.has_rows.Goals as goal

pub returns-clause-body : goal.returns-clause-body
returns-clause-body c net o vid runs ok = let islands = c.islands_of_vid.ensures.some net o vid ok in has_body net o vid islands.0 islands.1 runs

pub returns-clause-vlan : goal.returns-clause-vlan
returns-clause-vlan c net o vid ok = let islands = c.islands_of_vid.ensures.some net o vid ok in has_vlan net o vid islands.0 islands.1
