use Rattle.std.proofs.Common.{refl, ap}
use Rattle.mst_topology.proofs.messages.designated_vector_with.Goals as goal

pub returns-in_err-bridge-clause-none : goal.returns-in_err-bridge-clause-none
returns-in_err-bridge-clause-none g c = λ e x s.
    let same = ap (λ q. q.bridge) c.port.view_is in
    c.in_err-bridge.ensures.none refl s.bridge (rw (← same) at s.has_bridge)
