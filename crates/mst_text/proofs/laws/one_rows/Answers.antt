use Rattle.mst_text.proofs.VlanOnce.{one_body, one_vlan}
use Rattle.mst_text.proofs.laws.one_rows.Goals as goal

pub returns-clause-body : goal.returns-clause-body
returns-clause-body c net o vid = one_body net o vid (c.islands_of_vid.ensures.one net o vid)

pub returns-clause-vlan : goal.returns-clause-vlan
returns-clause-vlan c net o vid = one_vlan net o vid (c.islands_of_vid.ensures.one net o vid)
