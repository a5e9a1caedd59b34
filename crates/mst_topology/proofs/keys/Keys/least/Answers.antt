use Rattle.std.proofs.Common.{◌≡◌, sym, subst, ℕ, ap, length, arith}
use Rattle.mst_topology.specs.Chains.{IsAt}
use Rattle.mst_topology.specs.Slots.{IsLeastKey}
use Rattle.mst_topology.proofs.Search.{some_is}
use Rattle.mst_topology.proofs.Blocks.{least_more, least_key, least_place, no_key}
use Rattle.mst_topology.proofs.keys.Keys.least.Goals as goal

pub loop-best-preserved : goal.loop-best-preserved
loop-best-preserved g c =
    let at : IsAt c.deref-best-items.result.now c.loop-best.best-index c.best-item.result = (c.loop-best-test.true, sym c.best-item.is) in
    rw c.lesser_best-least.ensures
    (least_more g.M.Metric.rules.order g.met.M.Metric.lawful.total c.self.inside.slots c.self.inside.bests.items c.self.invariant c.loop-best.best-index c.best-item.result c.loop-best.least (rw c.deref-best-items.ensures.value at at) c.loop-best.invariant)

pub returns-in_err-place-clause-none : goal.returns-in_err-place-clause-none
returns-in_err-place-clause-none g c = λ e.
    let size : length c.deref-best-items.result.now ≡ length c.self.inside.bests.items = ap length c.deref-best-items.ensures.value in
    let at : c.loop-best.best-index ≡ length c.self.inside.bests.items = omega arith in
    let none = c.in_err-place.was in
    rw (← c.self.view_is) (no_key g.M.Metric.rules.order g.met.M.Metric.lawful.total c.self.inside.slots c.self.inside.bests.items c.self.invariant (rw (at, none) at c.loop-best.invariant))

pub returns-clause-some : goal.returns-clause-some
returns-clause-some g c = rw (← c.self.view_is) (λ r e.
    let size : length c.deref-best-items.result.now ≡ length c.self.inside.bests.items = ap length c.deref-best-items.ensures.value in
    let at : c.loop-best.best-index ≡ length c.self.inside.bests.items = omega arith in
    let some = c.in_ok-place.was in
    let best = rw (at, some) at c.loop-best.invariant in
    let there = least_place g.M.Metric.rules.order g.met.M.Metric.lawful.total c.self.inside.slots c.self.inside.bests.items c.self.invariant c.in_ok-place.place c.in_ok-place.key best in
    let here : IsAt c.self.inside.slots c.in_ok-place.place c.index-entries-place.result = (there, sym (rw c.entries.ensures.value at c.index-entries-place.is)) in
    let least = least_key g.M.Metric.rules.order g.met.M.Metric.lawful.total c.self.inside.slots c.self.inside.bests.items c.self.invariant c.in_ok-place.place c.in_ok-place.key best c.index-entries-place.result here in
    rw (← some_is _ r e) (subst (λ (z : ℕ × _). IsLeastKey g.M.Metric.rules.order c.self.inside.slots z.0 c.in_ok-place.key) c.index-entries-place.is least))
