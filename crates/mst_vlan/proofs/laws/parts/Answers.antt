use Rattle.mst_roles.specs.forest.Outcome.{trees_of}
use Rattle.mst_roles.proofs.Names.{tests}
use Rattle.mst_roles.proofs.Plugs.{plug, enabled_plug}
use Rattle.mst_vlan.proofs.laws.parts.Goals as goal

pub returns-clause-one : goal.returns-clause-one
returns-clause-one c net o x y z v w = c.parts.ensures.one (trees_of net o) x y z v w

pub returns-clause-lans : goal.returns-clause-lans
returns-clause-lans c net o ok is p enabled = c.parts.ensures.lans (trees_of net o) tests (c.nested.ensures.settled net o ok is) (plug net p) (enabled_plug net ok p enabled)

pub returns-clause-values : goal.returns-clause-values
returns-clause-values c net o ok is free n k x y e f part = c.parts.ensures.values (trees_of net o) tests (c.nested.ensures.settled net o ok is) (c.nested.ensures.free net o ok is free) n k x y e f part

pub returns-clause-regional : goal.returns-clause-regional
returns-clause-regional c net o ok is free n x e = c.roots.ensures.regional (trees_of net o) tests (c.nested.ensures.settled net o ok is) (c.nested.ensures.free net o ok is free) n x e

pub returns-clause-regions : goal.returns-clause-regions
returns-clause-regions c net o ok is n k b has part = c.parts.ensures.regions (trees_of net o) tests (c.nested.ensures.settled net o ok is) n k b has part
