use Rattle.mst_graph.proofs.Walks.{replaced}
use Rattle.mst_roles.specs.Active.{port_ends}
use Rattle.mst_roles.proofs.ActiveLaw.{joined_without_loop}
use Rattle.mst_roles.proofs.laws.joined_without_loop.Goals as goal

pub returns-clause-active : goal.returns-clause-active
returns-clause-active c net o vid ok is free =
    joined_without_loop net ok o (c.nested.ensures.settled net o ok is) (c.nested.ensures.free net o ok is free) (c.forwarding.ensures net o ok is) vid c.active.ensures.joined c.active.ensures.no_loop

pub returns-clause-sets : goal.returns-clause-sets
returns-clause-sets c net o vid ok is free x y walk =
    replaced port_ends
    (joined_without_loop net ok o (c.nested.ensures.settled net o ok is) (c.nested.ensures.free net o ok is free) (c.forwarding.ensures net o ok is) vid c.active.ensures.joined c.active.ensures.no_loop).joined walk
