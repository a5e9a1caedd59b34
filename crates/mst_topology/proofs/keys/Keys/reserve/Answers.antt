use Rattle.std.proofs.Common.{◌≡◌, ◌≤◌, ◌*◌, ap, length, arith}
use Rattle.mst_topology.proofs.Blocks.{bests_kept, bests_more}
use Rattle.mst_topology.proofs.keys.Keys.reserve.Goals as goal

pub invariant_of-self-then-len-entries : goal.invariant_of-self-then-len-entries
invariant_of-self-then-len-entries g c = rw c.push_reserved.ensures.items (rw c.reserve.ensures.items
    (bests_more g.M.Metric.rules.order g.met.M.Metric.lawful.total c.self.inside.slots c.self.inside.bests.items c.self.invariant c.args.number c.reserve-2.new.self c.in_ok-reserve-2.ensures.ok))

pub invariant_of-self-else-len-entries : goal.invariant_of-self-else-len-entries
invariant_of-self-else-len-entries g c =
    let size : length c.entries.result.now ≡ length c.reserve-2.new.self = ap length c.entries.ensures.value in
    let items : length c.reserve.new.self.items ≡ length c.self.inside.bests.items = ap length c.reserve.ensures.items in
    let few : length c.reserve-2.new.self ≤ length c.self.inside.bests.items * 32 = omega arith in
    rw c.reserve.ensures.items (bests_kept g.M.Metric.rules.order g.met.M.Metric.lawful.total c.self.inside.slots c.self.inside.bests.items c.self.invariant c.args.number c.reserve-2.new.self c.in_ok-reserve-2.ensures.ok few)
