use Rattle.std.proofs.Common.{◌≡◌, ℕ, refl}
use Rattle.mst_topology.specs.Topology.{TreePort}
use Rattle.mst_topology.proofs.Bounded.{last_there}
use Rattle.mst_topology.proofs.wiring.Wiring.bridge_bound.Goals as goal

pub returns : goal.returns
returns g c = λ p h.
    c.bound.ensures p.bridge
    (last_there c.self.inside.ports.items (λ (q : TreePort ℕ ℕ ℕ g.row.P.Denot). q.bridge ≡ p.bridge) c.self.inside.last_of p.bridge (c.self.invariant.chains.of p.bridge) p (rw (← c.self.view_is) at h) refl)
