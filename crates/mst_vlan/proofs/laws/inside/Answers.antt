use Rattle.mst_roles.specs.forest.Outcome.{trees_of}
use Rattle.mst_roles.proofs.Names.{tests}
use Rattle.mst_vlan.proofs.laws.inside.Goals as goal

pub returns-clause-joined : goal.returns-clause-joined
returns-clause-joined c net o ok is free tree n y has part = c.inside.ensures.joined (trees_of net o) tests (c.nested.ensures.settled net o ok is) (c.nested.ensures.free net o ok is free) tree n y has part

pub returns-clause-no_loop : goal.returns-clause-no_loop
returns-clause-no_loop c net o ok is free tree = c.inside.ensures.no_loop (trees_of net o) tests (c.nested.ensures.settled net o ok is) (c.nested.ensures.free net o ok is free) tree
