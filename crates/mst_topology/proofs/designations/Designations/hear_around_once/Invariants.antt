use Rattle.std.proofs.Common.{◌≡◌}
use Rattle.std.specs.Map.{keys_of}
use Rattle.mst_topology.specs.Places.{option_at}
use Rattle.mst_topology.specs.Chains.{upto_place}
use Rattle.mst_topology.specs.Effects.{HearsAnew, LansAreRight}
use Rattle.mst_topology.proofs.Lowest.{IsNextAt}
use Rattle.mst_topology.proofs.Effects.{Passed}
use Rattle.mst_topology.proofs.designations.Designations.hear_around_once.Given as goal

abbrev pub invariant-loop-next : goal.invariant-loop-next
invariant-loop-next g l = record {
  next : IsNextAt l.topology.ports (λ p. p.bridge ≡ l.fn.bridge) l.next;
  heard : HearsAnew g.M.Metric.rules l.topology (option_at l.vectors) (option_at l.fn.self.ports) (option_at l.self.ports)
      (Passed l.topology.ports (λ p lan. (p.bridge ≡ l.fn.bridge) × (p.lan ≡ lan)) l.next);
  keys_same : keys_of l.self.ports ≡ keys_of l.fn.self.ports;
  seen : LansAreRight g.M.Metric.rules l.topology (option_at l.vectors) l.self.heard (option_at l.self.ports);
}

abbrev pub decreases-loop-next : goal.decreases-loop-next
decreases-loop-next g l = upto_place l.next
