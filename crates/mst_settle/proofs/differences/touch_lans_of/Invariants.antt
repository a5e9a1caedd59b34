use Rattle.std.proofs.Common.{◌≡◌, ℕ, ◌≤◌, true}
use Rattle.std.specs.List.{Contains}
use Rattle.mst_topology.specs.Topology.{TreePort}
use Rattle.mst_settle.specs.Settler.{KeepsOutcome}
use Rattle.mst_topology.specs.Chains.{IsAt, upto_place}
use Rattle.mst_topology.proofs.Lowest.{IsNextAt}
use Rattle.mst_settle.proofs.differences.touch_lans_of.Given as goal

-- the LANs of the bridge's ports at later places are touched
abbrev pub invariant-loop-next : goal.invariant-loop-next
invariant-loop-next g l = record {
  keeps : KeepsOutcome l.fn.settler l.settler;
  next : IsNextAt l.topology.ports (λ p. p.bridge ≡ l.fn.bridge) l.next;
  touched : (k : ℕ) (p : TreePort ℕ ℕ ℕ g.row.M-Port.Denot) → upto_place l.next ≤ k → IsAt l.topology.ports k p → p.bridge ≡ l.fn.bridge → Contains l.settler.touched_lans (p.lan, true);
}

abbrev pub decreases-loop-next : goal.decreases-loop-next
decreases-loop-next g l = upto_place l.next
