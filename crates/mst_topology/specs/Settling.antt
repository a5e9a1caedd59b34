-- What the functions that settle a tree say of the vectors so far.
use Rattle.std.specs.Prelude.{◌≡◌, ◌≢◌, ◌⊎◌, ℕ, ◌≤◌, Option, Some, None, false, cond}
use Rattle.std.specs.Ordering.{is_gt}
use Rattle.std.specs.declared.cmp.Ordering.{Ordering}
use Rattle.mst_vector.specs.Rules.{Rules}
use Rattle.mst_topology.specs.Topology.{TreePort, Topology, HasBridge}
use Rattle.mst_topology.specs.declared.heard.Heard.{Heard}
use Rattle.mst_topology.specs.Settled.{IsDesignatedVector, IsRootPathVector}

-- w has x at n, and elsewhere what v has
abbrev pub IsPut : {N V : Type 0} → (N → Option V) → N → V → (N → Option V) → Type 0
IsPut {N} {V} v n x w = (k : N) → (k ≡ n) × (w k ≡ Some x) ⊎ (k ≢ n) × (w k ≡ v k)

-- a root path priority vector at this port
abbrev pub IsRootPathVectorAlong : {N L K B P V : Type 0} → Rules B P V → Topology N L K B P → (N → Option V) → N → B → TreePort N L K P → V → Type 0
IsRootPathVectorAlong m t v n b p x = (s : IsRootPathVector m t v n b x) × (s.port ≡ p)

-- a root path priority vector of the port's bridge at it
pub record Offers {N L K B P V : Type 0} (m : Rules B P V) (t : Topology N L K B P) (v : N → Option V) (p : TreePort N L K P) (x : V) : Type 0 where
  pub bridge : B
  pub has_bridge : HasBridge t p.bridge bridge
  pub along : IsRootPathVectorAlong m t v p.bridge bridge p x

-- a port of the bridge offers this root path priority vector, and a port on the LAN says this
abbrev pub OffersOf : {N L K B P V : Type 0} → Rules B P V → Topology N L K B P → (N → Option V) → N → TreePort N L K P → V → Type 0
OffersOf m t v n p x = (p.bridge ≡ n) × Offers m t v p x

abbrev pub Speaks : {N L K B P V : Type 0} → Rules B P V → Topology N L K B P → (N → Option V) → L → TreePort N L K P → V → Type 0
Speaks m t v lan p x = (p.lan ≡ lan) × IsDesignatedVector m t v p x

-- the port with its vector is the least, or there is none
abbrev pub IsLowest : {N L P V : Type 0} → (V → V → Ordering) → (TreePort N L ℕ P → V → Type 0) → Option (Heard V) → Type 0
IsLowest {N} {L} {P} {V} order Has None = (p : TreePort N L ℕ P) (x : V) → Has p x → ⊥
IsLowest {N} {L} {P} {V} order Has (Some h) = (p : TreePort N L ℕ P) × (p.number ≡ h.port) × Has p h.message × ((q : TreePort N L ℕ P) (y : V) → Has q y → is_gt (order h.message y) ≡ false)

-- its port
abbrev pub port_of : {V : Type 0} → Option (Heard V) → Option ℕ
port_of None = None
port_of (Some h) = Some h.port

-- the lower of the best so far, if any, and what this port has, if anything
abbrev pub lower_of : {V : Type 0} → (V → V → Ordering) → Option (Heard V) → Heard V → Heard V
lower_of order None h = h
lower_of order (Some b) h = cond (is_gt (order b.message h.message)) h b

abbrev pub lower_heard : {V : Type 0} → (V → V → Ordering) → Option (Heard V) → ℕ → Option V → Option (Heard V)
lower_heard order best port None = best
lower_heard order best port (Some x) = Some (lower_of order best (record { port = port; message = x }))

-- each cost is at most this
abbrev pub CostsWithin : {N B P V : Type 0} → Rules B P V → (N → Option V) → ℕ → Type 0
CostsWithin {N} {B} {P} {V} m v most = (n : N) (x : V) → v n ≡ Some x → m.cost x ≤ most
