-- What stays touched as more is touched.
use Rattle.std.proofs.Common.{◌≡◌, ℕ, ◌+◌, ◌≤◌, Option, true, subst, inl, inr}
use Rattle.std.specs.List.{Contains}
use Rattle.mst_topology.specs.Topology.{TreePort, Topology, HasPort}
use Rattle.mst_topology.specs.Chains.{IsAt, IsLast, upto_place}
use Rattle.mst_outcome.specs.Assignment.{Assignment}
use Rattle.mst_settle.specs.Settler.{KeepsOutcome}
use Rattle.mst_topology.proofs.Chains.{one_there}
use Rattle.mst_topology.proofs.Lowest.{before_here_after}
use Rattle.mst_settle.proofs.Roomy.{keeps_trans}
use Rattle.mst_settle.specs.Differences.{IsTouched, PortIsDone, NumberIsDone, BridgeIsDone}

-- three steps
pub keeps_three : {V : Type 0} {a b c d : Assignment V} → KeepsOutcome a b → KeepsOutcome b c → KeepsOutcome c d → KeepsOutcome a d
keeps_three {V} {a} {b} {c} {d} h i j = keeps_trans a b d h (keeps_trans b c d i j)

pub touched_kept : {P V : Type 0} (a b : Assignment V) → KeepsOutcome a b → (p : TreePort ℕ ℕ ℕ P) → IsTouched a p → IsTouched b p
touched_kept a b k p h = (k.touched_bridges p.bridge h.0, k.touched_lans p.lan h.1)

module _ {B P V : Type 0} (t u : Topology ℕ ℕ ℕ B P) (a b : Assignment V) (k : KeepsOutcome a b) where
  pub port_kept : (p : TreePort ℕ ℕ ℕ P) → PortIsDone t u a p → PortIsDone t u b p
  port_kept p h = elim h [ inl same ↦ inl same | inr i ↦ inr (touched_kept a b k p i) ]

  pub number_kept : (n : ℕ) → NumberIsDone t u a n → NumberIsDone t u b n
  number_kept n h p i e = port_kept p (h p i e)

  -- what is touched in one topology first, and then in the other
  pub number_touched : (n : ℕ) → ((p : TreePort ℕ ℕ ℕ P) → HasPort t p → p.number ≡ n → IsTouched a p) → ((p : TreePort ℕ ℕ ℕ P) → HasPort u p → p.number ≡ n → IsTouched b p) → NumberIsDone t u b n
  number_touched n first then p i e = inr (elim i [ inl h ↦ touched_kept a b k p (first p h e) | inr h ↦ then p h e ])

  pub done_kept : (n : ℕ) (c : B) → BridgeIsDone t u a n c → BridgeIsDone t u b n c
  done_kept n c h = elim h [
    | inl g ↦ inl g
    | inr d ↦ inr (k.touched_bridges n d.0, (λ p i on. k.touched_lans p.lan (d.1 p i on)), (λ p i on. k.touched_lans p.lan (d.2 p i on)))
  ]

-- the LANs of one more port of a bridge are touched, on the way along its ports
module _ {B P V : Type 0} (t : Topology ℕ ℕ ℕ B P) (n : ℕ) (a b : Assignment V) (kept : KeepsOutcome a b) where
  pub lans_more : (k : ℕ) (p : TreePort ℕ ℕ ℕ P) → IsAt t.ports k p → (o : Option ℕ) → IsLast t.ports (λ q. q.bridge ≡ n) k o → Contains b.touched_lans (p.lan, true)
      → ((j : ℕ) (q : TreePort ℕ ℕ ℕ P) → k + 1 ≤ j → IsAt t.ports j q → q.bridge ≡ n → Contains a.touched_lans (q.lan, true))
      → (j : ℕ) (q : TreePort ℕ ℕ ℕ P) → upto_place o ≤ j → IsAt t.ports j q → q.bridge ≡ n → Contains b.touched_lans (q.lan, true)
  lans_more k p at o last here before j q upto there on = elim (before_here_after j k) [
    | inl low ↦ absurd (last.none_after j q upto low there on)
    | inr r ↦ elim r [
      | inl same ↦ subst (λ (z : TreePort ℕ ℕ ℕ P). Contains b.touched_lans (z.lan, true)) (one_there t.ports k p q at (subst (λ z. IsAt t.ports z q) same there)) here
      | inr after ↦ kept.touched_lans q.lan (before j q after there on)
    ]
  ]
