use Rattle.std.proofs.Common.{◌≡◌, ◌≢◌, ℕ, List, Option}
use Rattle.std.specs.List.{Contains}
use Rattle.mst_topology.specs.Topology.{TreePort, HasPort}
use Rattle.mst_topology.specs.Chains.{upto_place}
use Rattle.mst_topology.specs.Slots.{HasRoom}
use Rattle.mst_topology.specs.Effects.{KeysAreRight, IsUnconcerned}
use Rattle.mst_topology.proofs.Lowest.{IsNextAt}
use Rattle.mst_topology.proofs.Effects.{Passed}
use Rattle.mst_progress.specs.Progress.{vector_of, vectors_with}
use Rattle.mst_settle.specs.Mixed.{HasMixedKey, AreDone}
use Rattle.mst_settle.proofs.queue.Queue.look_after.Given as goal

abbrev pub invariant-loop-next : goal.invariant-loop-next
invariant-loop-next g l = record {
  next : IsNextAt l.topology.ports (λ p. p.bridge ≡ l.fn.bridge) l.next;
  mixed : (n : ℕ) → n ≢ l.fn.bridge → (done : List (TreePort ℕ ℕ ℕ g.row.M-Port.Denot)) × HasMixedKey g.M.Metric.rules l.progress.topology (vectors_with (vector_of l.progress) l.fn.bridge l.fn.stored) (vector_of l.progress) done n l.self.keys
      × AreDone g.M.Metric.rules l.progress.topology (vectors_with (vector_of l.progress) l.fn.bridge l.fn.stored) (vector_of l.progress) l.self.looked_on n done
      × ((p : TreePort ℕ ℕ ℕ g.row.M-Port.Denot) → HasPort l.progress.topology p → p.bridge ≡ n → Passed l.topology.ports (λ (r : TreePort ℕ ℕ ℕ g.row.M-Port.Denot) (p : TreePort ℕ ℕ ℕ g.row.M-Port.Denot). (r.bridge ≡ l.fn.bridge) × (p.lan ≡ r.lan) × (IsUnconcerned g.M.Metric.rules l.progress.topology (vector_of l.progress) l.fn.stored r → ⊥)) l.next p → Contains done p);
  own : (k : Option g.row.M-Vector.Denot) → Contains l.self.keys (l.fn.bridge, k) → Contains l.fn.self.keys (l.fn.bridge, k);
  rooms : (n : ℕ) → HasRoom l.fn.self.keys n → HasRoom l.self.keys n;
  seen : KeysAreRight g.M.Metric.rules l.progress.topology (vector_of l.progress) l.self.looked l.self.keys;
  former : l.self.former ≡ l.fn.self.former;
}

abbrev pub decreases-loop-next : goal.decreases-loop-next
decreases-loop-next g l = upto_place l.next
