use Rattle.std.proofs.Common.{◌≡◌, ℕ, Option, Some}
use Rattle.mst_topology.specs.Chains.{upto_place}
use Rattle.mst_topology.specs.Places.{in_map, option_at}
use Rattle.mst_topology.proofs.Lowest.{IsNextAt}
use Rattle.mst_topology.proofs.Effects.{Passed}
use Rattle.mst_settle.proofs.noting.note.Given as goal

abbrev pub invariant-loop-next : goal.invariant-loop-next
invariant-loop-next g l = record {
  next : IsNextAt l.topology.ports (λ p. p.bridge ≡ l.fn.bridge) l.next;
  noted : (lan : ℕ) (o : Option ℕ) → Passed l.topology.ports (λ p a. (p.bridge ≡ l.fn.bridge) × (p.lan ≡ a)) l.next lan → in_map l.former lan ≡ Some o → o ≡ option_at l.ports lan;
}

abbrev pub decreases-loop-next : goal.decreases-loop-next
decreases-loop-next g l = upto_place l.next
