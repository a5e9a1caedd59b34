use Rattle.std.proofs.Common.{◌≡◌}
use Rattle.mst_topology.specs.Wiring.{port_in}
use Rattle.mst_topology.proofs.Mapped.{at_from, last_mapped}
use Rattle.mst_topology.proofs.topology.Topology.before_on.Goals as goal

pub returns : goal.returns
returns g c = λ p h.
    let there = at_from (port_in c.self.inside.bridges.now c.self.inside.own.now) c.self.inside.wiring.now c.args.place p (rw (← c.self.view_is) at h) in
    rw (← c.self.view_is) (rw there.2 (last_mapped (port_in c.self.inside.bridges.now c.self.inside.own.now) c.self.inside.wiring.now (λ q. q.lan ≡ there.0.lan) c.args.place c.before_on.result (c.before_on.ensures there.0 there.1)))
