use Rattle.mst_roles.specs.forest.Outcome.{trees_of}
use Rattle.mst_roles.proofs.Names.{tests}
use Rattle.mst_vlan.proofs.laws.exits.Goals as goal

pub returns-clause-only : goal.returns-clause-only
returns-clause-only c net o ok is free p tree crossing forwards = c.exits.ensures.only (trees_of net o) tests (c.nested.ensures.settled net o ok is) (c.nested.ensures.free net o ok is free) p tree crossing forwards

pub returns-clause-all : goal.returns-clause-all
returns-clause-all c net o ok is free p tree exit has = c.exits.ensures.all (trees_of net o) tests (c.nested.ensures.settled net o ok is) (c.nested.ensures.free net o ok is free) p tree exit has

pub returns-clause-top : goal.returns-clause-top
returns-clause-top c net o ok is free n x e holds p exit part = c.exits.ensures.top (trees_of net o) tests (c.nested.ensures.settled net o ok is) (c.nested.ensures.free net o ok is free) n x e holds p exit part

pub returns-clause-one : goal.returns-clause-one
returns-clause-one c net o ok is free n x e = c.exits.ensures.one (trees_of net o) tests (c.nested.ensures.settled net o ok is) (c.nested.ensures.free net o ok is free) n x e
