use Rattle.std.proofs.Common.{◌≡◌, ℕ, refl}
use Rattle.mst_topology.specs.Topology.{TreePort}
use Rattle.mst_topology.proofs.Bounded.{last_there}
use Rattle.mst_topology.proofs.wiring.Wiring.lan_bound.Goals as goal

pub returns : goal.returns
returns g c = λ p h.
    c.bound.ensures p.lan
    (last_there c.self.inside.ports.items (λ (q : TreePort ℕ ℕ ℕ g.row.P.Denot). q.lan ≡ p.lan) c.self.inside.last_on p.lan (c.self.invariant.chains.on p.lan) p (rw (← c.self.view_is) at h) refl)
