use Rattle.mst_roles.specs.forest.Outcome.{trees_of}
use Rattle.mst_vlan.proofs.Crossing.{exit_forwards}
use Rattle.mst_roles.proofs.Names.{tests}
use Rattle.mst_vlan.proofs.laws.crossing.Goals as goal

pub returns : goal.returns
returns c net o ok is free p enabled apart tree role e =
    let settled = c.nested.ensures.settled net o ok is in
    let none = c.nested.ensures.free net o ok is free in
    exit_forwards net o ok settled (c.forwarding.ensures net o ok is) (c.exits.ensures.only (trees_of net o) tests settled none) (c.exits.ensures.all (trees_of net o) tests settled none) p enabled apart tree role e
