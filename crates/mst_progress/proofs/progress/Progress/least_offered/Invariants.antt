use Rattle.std.proofs.Common.{◌≡◌}
use Rattle.mst_progress.specs.Progress.{vector_of}
use Rattle.mst_topology.specs.Chains.{upto_place}
use Rattle.mst_topology.specs.Settling.{IsLowest, OffersOf}
use Rattle.mst_topology.proofs.Lowest.{From, IsNextAt}
use Rattle.mst_progress.proofs.progress.Progress.least_offered.Given as goal

abbrev pub invariant-loop-next : goal.invariant-loop-next
invariant-loop-next g l = record {
  next : IsNextAt l.topology.ports (λ p. p.bridge ≡ l.fn.number) l.next;
  lowest : IsLowest g.M.Metric.rules.order (From l.topology.ports (OffersOf g.M.Metric.rules l.self.topology (vector_of l.self) l.fn.number) (upto_place l.next)) l.best;
}

abbrev pub decreases-loop-next : goal.decreases-loop-next
decreases-loop-next g l = upto_place l.next
