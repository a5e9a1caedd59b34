use Rattle.std.proofs.Common.{◌≡◌}
use Rattle.mst_topology.specs.Places.{option_at}
use Rattle.mst_topology.specs.Chains.{upto_place}
use Rattle.mst_topology.specs.Settling.{IsLowest, Speaks}
use Rattle.mst_topology.proofs.Lowest.{From, IsNextAt}
use Rattle.mst_topology.proofs.designations.least_heard.Given as goal

abbrev pub invariant-loop-next : goal.invariant-loop-next
invariant-loop-next g l = record {
  next : IsNextAt l.topology.ports (λ p. p.lan ≡ l.fn.lan) l.next;
  lowest : IsLowest g.M.Metric.rules.order (From l.topology.ports (Speaks g.M.Metric.rules l.topology (option_at l.vectors) l.fn.lan) (upto_place l.next)) l.best;
}

abbrev pub decreases-loop-next : goal.decreases-loop-next
decreases-loop-next g l = upto_place l.next
