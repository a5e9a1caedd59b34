use Rattle.std.proofs.Common.{refl, ◌≡◌}
use Rattle.mst_topology.specs.Wiring.{port_in}
use Rattle.mst_topology.proofs.Mapped.{found_before}
use Rattle.mst_topology.proofs.topology.Topology.port.Goals as goal

pub returns-in_err-place-clause-none : goal.returns-in_err-place-clause-none
returns-in_err-place-clause-none g c = λ e p h same.
    let there = found_before (port_in c.self.inside.bridges.now c.self.inside.own.now) c.self.inside.wiring.now (λ q. q.number ≡ c.args.number) p (rw (← c.self.view_is) at h) same in
    c.in_err-place.ensures.none refl there.0 there.1 there.2
