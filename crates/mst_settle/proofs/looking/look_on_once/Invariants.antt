use Rattle.std.proofs.Common.{◌≡◌}
use Rattle.mst_topology.specs.Chains.{upto_place}
use Rattle.mst_progress.specs.Progress.{vector_of}
use Rattle.mst_topology.specs.Effects.{LooksAnew, KeysAreRight}
use Rattle.mst_topology.proofs.Lowest.{IsNextAt}
use Rattle.mst_topology.proofs.Effects.{Passed}
use Rattle.mst_settle.proofs.looking.look_on_once.Given as goal

abbrev pub invariant-loop-next : goal.invariant-loop-next
invariant-loop-next g l = record {
  next : IsNextAt l.topology.ports (λ p. p.lan ≡ l.fn.lan) l.next;
  looked : LooksAnew g.M.Metric.rules l.progress.topology (vector_of l.progress) l.fn.keys l.keys (Passed l.topology.ports (λ p n. (p.lan ≡ l.fn.lan) × (p.bridge ≡ n)) l.next);
  seen : KeysAreRight g.M.Metric.rules l.progress.topology (vector_of l.progress) l.looked l.keys;
}

abbrev pub decreases-loop-next : goal.decreases-loop-next
decreases-loop-next g l = upto_place l.next
