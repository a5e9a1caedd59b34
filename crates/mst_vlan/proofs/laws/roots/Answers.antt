use Rattle.mst_roles.specs.forest.Outcome.{trees_of}
use Rattle.mst_roles.proofs.Names.{tests}
use Rattle.mst_vlan.proofs.laws.roots.Goals as goal

pub returns-clause-cist : goal.returns-clause-cist
returns-clause-cist c net o ok is free n x e = c.roots.ensures.cist (trees_of net o) tests (c.nested.ensures.settled net o ok is) (c.nested.ensures.free net o ok is free) n x e

pub returns-clause-msti : goal.returns-clause-msti
returns-clause-msti c net o ok is free tree n x e = c.roots.ensures.msti (trees_of net o) tests (c.nested.ensures.settled net o ok is) (c.nested.ensures.free net o ok is free) tree n x e
