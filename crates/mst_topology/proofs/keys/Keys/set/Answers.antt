use Rattle.std.proofs.Common.{◌/◌, refl, sym, length}
use Rattle.mst_topology.specs.Chains.{IsAt}
use Rattle.mst_topology.specs.Slots.{HasRoom}
use Rattle.mst_topology.proofs.Blocks.{written_place, others_best, bests_set, block_first, block_end, block_there}
use Rattle.mst_topology.proofs.keys.Keys.set.Goals as goal

pub best_after-best-requires-clause-former : goal.best_after-best-requires-clause-former
best_after-best-requires-clause-former g c = λ apart.
    let room : HasRoom c.self.inside.slots c.args.number = rw (← c.self.view_is) at c.requires in
    let at : IsAt c.self.inside.slots room.1.0 (c.args.number, room.0) = (room.1.1, room.1.2) in
    let there = c.in-Some.ensures.some c.in-Some.place refl in
    let written = written_place c.self.inside.slots c.set.new.self c.args.number room.1.0 c.in-Some.place room.0 there.0 c.args.key at (c.set.ensures.at room.1.0 room.0 at) c.entries.ensures.once there.1 in
    let in_bests = block_there c.in-Some.place (length c.self.inside.slots) (length c.self.inside.bests.items) written.0 c.self.invariant.covers in
    rw (c.entries.ensures.value, written.1)
    (others_best g.M.Metric.rules.order g.met.M.Metric.lawful.total c.self.inside.slots c.self.inside.bests.items c.self.invariant c.in-Some.place (c.args.number, c.args.key) written.0 (c.in-Some.place / 32) c.index.result.now (in_bests, sym c.index.ensures) apart)

pub invariant_of-self : goal.invariant_of-self
invariant_of-self g c =
    let room : HasRoom c.self.inside.slots c.args.number = rw (← c.self.view_is) at c.requires in
    let at : IsAt c.self.inside.slots room.1.0 (c.args.number, room.0) = (room.1.1, room.1.2) in
    let there = c.in-Some.ensures.some c.in-Some.place refl in
    let written = written_place c.self.inside.slots c.set.new.self c.args.number room.1.0 c.in-Some.place room.0 there.0 c.args.key at (c.set.ensures.at room.1.0 room.0 at) c.entries.ensures.once there.1 in
    let in_bests = block_there c.in-Some.place (length c.self.inside.slots) (length c.self.inside.bests.items) written.0 c.self.invariant.covers in
    rw written.1
    (bests_set g.M.Metric.rules.order g.met.M.Metric.lawful.total c.self.inside.slots c.self.inside.bests.items c.self.invariant c.in-Some.place (c.args.number, c.args.key) written.0 (c.in-Some.place / 32) (block_first c.in-Some.place) (block_end c.in-Some.place)
    c.best_after-best.result (rw (c.entries.ensures.value, written.1) at c.best_after-best.ensures) in_bests)
