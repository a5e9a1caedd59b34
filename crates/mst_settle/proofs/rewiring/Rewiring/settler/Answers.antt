use Rattle.std.proofs.Common.{arith}
use Rattle.mst_settle.proofs.Spaced.{below_bounds}
use Rattle.mst_settle.proofs.rewiring.Rewiring.settler.Goals as goal

pub returns : goal.returns
returns g c = rw (← c.self.view_is) (below_bounds (record { from = c.self.inside.from.now; to = c.self.inside.to.now }) c.max-bridges.result c.max-lans.result
    (λ p h. let bridge = c.bridge_bound.ensures p h in let lan = c.lan_bound.ensures p h in (omega arith, omega arith))
    (λ p h. let bridge = c.bridge_bound-2.ensures p h in let lan = c.lan_bound-2.ensures p h in (omega arith, omega arith))
    c.with_space.result c.with_space.ensures.bridges c.with_space.ensures.lans)
