use Rattle.std.proofs.Common.{◌+◌, ◌*◌, ◌<◌, ◌≤◌, sym, length, arith}
use Rattle.mst_topology.specs.Chains.{IsAt}
use Rattle.mst_topology.specs.Keys.{IsKeyIn}
use Rattle.mst_topology.proofs.Steps.{best_more}
use Rattle.mst_topology.proofs.Blocks.{best_same, key_there, key_is}
use Rattle.mst_topology.proofs.keys.best_in.Goals as goal

pub loop-place-init : goal.loop-place-init
loop-place-init g c = λ k y l h. let f = h.first in absurd (omega arith)

pub loop-place-preserved : goal.loop-place-preserved
loop-place-preserved g c =
    let order = g.M.Metric.rules.order in
    let total = g.met.M.Metric.lawful.total in
    let first : c.args.block * 32 ≤ c.loop-place.place = omega arith in
    let end : c.loop-place.place < c.args.block * 32 + 32 = omega arith in
    let low : c.loop-place.place < length c.args.entries.now = omega arith in
    let at : IsAt c.args.entries.now c.loop-place.place c.index-entries-place.result = (low, sym c.index-entries-place.is) in
    rw (c.lesser-best.ensures, ← c.index-entries-place.is)
    (best_more order total (IsKeyIn c.args.entries.now c.args.block) c.loop-place.place c.loop-place.best c.index-entries-place.result.1 c.loop-place.invariant
    (λ x e. record { first = first; end = end; number = c.index-entries-place.result.0; at = key_there order total c.args.entries.now c.index-entries-place.result c.loop-place.place at x e })
    (λ y h. key_is order total c.args.entries.now c.index-entries-place.result c.loop-place.place at h.number y h.at))

pub returns : goal.returns
returns g c = best_same g.M.Metric.rules.order g.met.M.Metric.lawful.total (IsKeyIn c.args.entries.now c.args.block) (IsKeyIn c.args.entries.now c.args.block) c.loop-place.place (length c.args.entries.now) c.loop-place.best
    (λ k x h. h) (λ k y l h. (let e = h.end in omega arith, h)) c.loop-place.invariant
