-- The space of a settler for the topologies on a wiring whose ports have space.
use Rattle.std.proofs.Common.{◌≡◌, ℕ, ◌<◌, List, Result, Ok, Err, IfOk, sym, subst}
use Rattle.std.specs.List.{Contains}
use Rattle.std.specs.declared.alloc.AllocError.{AllocError}
use Rattle.mst_topology.specs.Topology.{TreePort, Topology}
use Rattle.mst_topology.specs.Wiring.{port_in, topology_of}
use Rattle.mst_topology.specs.Slots.{HasRoom}
use Rattle.mst_outcome.specs.Assignment.{Assignment}
use Rattle.mst_settle.specs.Settler.{KeepsSpace}
use Rattle.mst_settle.specs.Differences.{Wirings, HasSpaceOn, HasSpaceForBoth}
use Rattle.mst_settle.proofs.Rewired.{from_mapped}

module _ {V : Type 0} (a b : Assignment V) where
  -- the same touches have the same space
  pub space_same : b.touched_bridges ≡ a.touched_bridges → b.touched_lans ≡ a.touched_lans → KeepsSpace a b
  space_same bridges lans = record { bridges = λ n r. subst (λ z. HasRoom z n) (sym bridges) r; lans = λ n r. subst (λ z. HasRoom z n) (sym lans) r }

  pub space_then : (c : Assignment V) → KeepsSpace a b → KeepsSpace b c → KeepsSpace a c
  space_then c h i = record { bridges = λ n r. i.bridges n (h.bridges n r); lans = λ n r. i.lans n (h.lans n r) }

  pub on_kept : {P : Type 0} (ports : List (TreePort ℕ ℕ ℕ P)) → KeepsSpace a b → HasSpaceOn ports a → HasSpaceOn ports b
  on_kept ports k space p h = let s = space p h in (k.bridges p.bridge s.0, k.lans p.lan s.1)

-- the ports of a topology are on the bridges and LANs of those of its wiring
pub on_ports : {B P V : Type 0} (wires : List (TreePort ℕ ℕ ℕ P)) (bridges : List (ℕ × B)) (own : List (ℕ × P)) (t : Topology ℕ ℕ ℕ B P) → t ≡ topology_of wires bridges own → (a : Assignment V) → HasSpaceOn wires a → HasSpaceOn t.ports a
on_ports {B} {P} {V} wires bridges own t is a space = subst (λ (z : Topology ℕ ℕ ℕ B P). HasSpaceOn z.ports a) (sym is) there
  where
    there : HasSpaceOn (topology_of wires bridges own).ports a
    there p h =
        let w = from_mapped (port_in bridges own) wires p h in
        subst (λ (q : TreePort ℕ ℕ ℕ P). HasRoom a.touched_bridges q.bridge × HasRoom a.touched_lans q.lan) w.2 (space w.0 w.1)

-- where numbers below bounds have space, so have the ports of two wirings whose numbers are below them
pub below_bounds : {P V : Type 0} (w : Wirings P) (bridges lans : ℕ)
    → ((p : TreePort ℕ ℕ ℕ P) → Contains w.from p → (p.bridge < bridges) × (p.lan < lans)) → ((p : TreePort ℕ ℕ ℕ P) → Contains w.to p → (p.bridge < bridges) × (p.lan < lans))
    → (r : Result (Assignment V) AllocError) → IfOk r (λ s. (n : ℕ) → n < bridges → HasRoom s.touched_bridges n) → IfOk r (λ s. (lan : ℕ) → lan < lans → HasRoom s.touched_lans lan) → IfOk r (HasSpaceForBoth w)
below_bounds w bridges lans from to (Ok s) has_bridges has_lans = record {
  from = λ p h. let low = from p h in (has_bridges p.bridge low.0, has_lans p.lan low.1);
  to = λ p h. let low = to p h in (has_bridges p.bridge low.0, has_lans p.lan low.1);
}
below_bounds w bridges lans from to (Err e) has_bridges has_lans = tt
