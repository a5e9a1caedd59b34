use Rattle.std.proofs.Common.{◌≡◌}
use Rattle.mst_topology.specs.Chains.{upto_place}
use Rattle.mst_topology.specs.Effects.{KeysAreRight}
use Rattle.mst_topology.proofs.Lowest.{IsNextAt}
use Rattle.mst_topology.proofs.Effects.{Passed}
use Rattle.mst_progress.specs.Progress.{vector_of, vectors_with}
use Rattle.mst_settle.specs.Mixed.{TakesIn}
use Rattle.mst_settle.proofs.queue.Queue.take_in_on.Given as goal

abbrev pub invariant-loop-next : goal.invariant-loop-next
invariant-loop-next g l = record {
  next : IsNextAt l.topology.ports (λ p. p.lan ≡ l.fn.lan) l.next;
  taken : TakesIn g.M.Metric.rules l.progress.topology (vectors_with (vector_of l.progress) l.fn.written l.fn.stored) (vector_of l.progress) l.fn.written l.fn.self.looked_on l.fn.self.keys l.self.looked_on l.self.keys (Passed l.topology.ports (λ p q. (p.lan ≡ l.fn.lan) × (p ≡ q)) l.next);
  seen : KeysAreRight g.M.Metric.rules l.progress.topology (vector_of l.progress) l.self.looked l.self.keys;
  former : l.self.former ≡ l.fn.self.former;
  looked_on : l.self.looked_on ≡ l.fn.self.looked_on;
}

abbrev pub decreases-loop-next : goal.decreases-loop-next
decreases-loop-next g l = upto_place l.next
