use Rattle.std.proofs.Common.{refl, ◌≡◌, true, false}
use Rattle.std.specs.Ordering.{is_gt}
use Rattle.mst_topology.specs.Places.{option_at}
use Rattle.mst_topology.proofs.Parts.{due_alone, due_own, due_step}
use Rattle.mst_progress.proofs.progress.Progress.due.Goals as goal

pub returns-in_err-bridge : goal.returns-in_err-bridge
returns-in_err-bridge g c = rw (← c.self.view_is) (rw c.from_residual.ensures (c.in_err-bridge.ensures.none refl))

pub returns-in-None : goal.returns-in-None
returns-in-None g c = rw (← c.self.view_is) (rw c.bridge_vector-bridge_vector.ensures (let least = rw (← c.self.view_is) at c.in-None.ensures in due_alone g.M.Metric.rules g.met.M.Metric.lawful c.self.inside.topology.now c.self.invariant.topology (option_at c.self.inside.vectors.now) c.args.number c.in_ok-bridge.field-0.now (c.in_ok-bridge.ensures.some c.in_ok-bridge.field-0 refl) least))

pub returns-then-is_gt : goal.returns-then-is_gt
returns-then-is_gt g c = rw (← c.self.view_is) (
    let least = rw (← c.self.view_is) at c.in-Some.ensures in
    let high : is_gt (g.M.Metric.rules.order (g.M.Metric.rules.bridge_vector c.in_ok-bridge.field-0.now) c.in-Some.best.message) ≡ true = cc (c.bridge_vector-bridge_vector.ensures, c.order.ensures, c.is_gt.ensures, c.if-is_gt.true) in
    due_step g.M.Metric.rules g.met.M.Metric.lawful c.self.inside.topology.now c.self.invariant.topology (option_at c.self.inside.vectors.now) c.args.number c.in_ok-bridge.field-0.now (c.in_ok-bridge.ensures.some c.in_ok-bridge.field-0 refl) least.0 c.in-Some.best.message least.2 least.3 high)

pub returns-else-is_gt : goal.returns-else-is_gt
returns-else-is_gt g c = rw (← c.self.view_is) (
    let least = rw (← c.self.view_is) at c.in-Some.ensures in
    let low : is_gt (g.M.Metric.rules.order (g.M.Metric.rules.bridge_vector c.in_ok-bridge.field-0.now) c.in-Some.best.message) ≡ false = cc (c.bridge_vector-bridge_vector.ensures, c.order.ensures, c.is_gt.ensures, c.if-is_gt.false) in
    rw c.bridge_vector-bridge_vector.ensures (due_own g.M.Metric.rules g.met.M.Metric.lawful c.self.inside.topology.now c.self.invariant.topology (option_at c.self.inside.vectors.now) c.args.number c.in_ok-bridge.field-0.now (c.in_ok-bridge.ensures.some c.in_ok-bridge.field-0 refl) least.0 c.in-Some.best.message least.2 least.3 low))
