use Rattle.std.proofs.Common.{ap, sym, ◌≡◌, Some, length, arith}
use Rattle.mst_topology.specs.Topology.{HasBridge}
use Rattle.mst_topology.specs.Chains.{IsAt}
use Rattle.mst_topology.proofs.Effects.{set_rooms}
use Rattle.mst_settle.proofs.Scratch.{queued_none, queued_more, queued_all}
use Rattle.mst_settle.proofs.queue.Queue.queue_all.Goals as goal

pub loop-bridge-init : goal.loop-bridge-init
loop-bridge-init g c = record { queued = queued_none g.M.Metric.rules c.args.topology.now c.args.self.now.keys c.requires.idle; rooms = λ n r. r }

pub queue_one-requires : goal.queue_one-requires
queue_one-requires g c =
    let has : HasBridge c.args.topology.now c.bridge-item.result.0 c.bridge-item.result.1 = (c.loop-bridge.bridge-index, rw c.bridges-bridge-items.ensures at c.loop-bridge-test.true, sym (rw c.bridges-bridge-items.ensures at c.bridge-item.is)) in
    c.loop-bridge.invariant.rooms c.bridge-item.result.0 (c.requires.rooms c.bridge-item.result.0 c.bridge-item.result.1 has)

pub loop-bridge-preserved : goal.loop-bridge-preserved
loop-bridge-preserved g c =
    let before = c.loop-bridge.invariant in
    let at : IsAt c.args.topology.now.bridges c.loop-bridge.bridge-index (c.bridge-item.result.0, c.bridge-item.result.1) = (rw c.bridges-bridge-items.ensures at c.loop-bridge-test.true, sym (rw c.bridges-bridge-items.ensures at c.bridge-item.is)) in
    record {
      queued = queued_more g.M.Metric.rules c.args.topology.now c.known.ensures c.loop-bridge.bridge-index c.bridge-item.result.0 c.bridge-item.result.1 at c.loop-bridge.self.keys c.queue_one.new.self.keys c.queue_one.ensures before.queued;
      rooms = λ n r. set_rooms c.loop-bridge.self.keys c.bridge-item.result.0 (Some (g.M.Metric.rules.bridge_vector c.bridge-item.result.1)) c.queue_one.new.self.keys c.queue_one.ensures n (before.rooms n r);
    }

pub returns-clause-right : goal.returns-clause-right
returns-clause-right g c =
    let e : length c.bridges-bridge-items.result.now ≡ length c.args.topology.now.bridges = ap length c.bridges-bridge-items.ensures in
    let all : c.loop-bridge.bridge-index ≡ length c.args.topology.now.bridges = omega arith in
    queued_all g.M.Metric.rules c.args.topology.now c.known.ensures c.loop-bridge.self.keys (rw all at c.loop-bridge.invariant.queued)
