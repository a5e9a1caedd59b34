use Rattle.mst_topology.proofs.topology.Topology.bridge.Goals as goal

pub returns-clause-none : goal.returns-clause-none
returns-clause-none g c = λ e b h. c.get.ensures.none e b (rw (← c.self.view_is) at h)
