use Rattle.std.proofs.Common.{◌≡◌}
use Rattle.mst_topology.specs.Wiring.{port_in}
use Rattle.mst_topology.proofs.Mapped.{last_mapped_all}
use Rattle.mst_topology.proofs.topology.Topology.last_of.Goals as goal

pub returns : goal.returns
returns g c = rw (← c.self.view_is) (last_mapped_all (port_in c.self.inside.bridges.now c.self.inside.own.now) c.self.inside.wiring.now (λ p. p.bridge ≡ c.args.bridge) c.last_of.result c.last_of.ensures)
