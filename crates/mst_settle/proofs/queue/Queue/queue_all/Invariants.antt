use Rattle.std.proofs.Common.{ℕ}
use Rattle.mst_topology.specs.Slots.{HasRoom}
use Rattle.mst_settle.proofs.Scratch.{IsQueuedUpto}
use Rattle.mst_settle.proofs.queue.Queue.queue_all.Given as goal

abbrev pub invariant-loop-bridge : goal.invariant-loop-bridge
invariant-loop-bridge g l = record {
  queued : IsQueuedUpto g.M.Metric.rules l.topology l.bridge-index l.self.keys;
  rooms : (n : ℕ) → HasRoom l.fn.self.keys n → HasRoom l.self.keys n;
}
