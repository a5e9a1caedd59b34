-- The rules of one kind of spanning tree: which priority vectors its bridges and ports have and give,
-- and the laws that these keep.
use Rattle.std.specs.Prelude.{◌≡◌, ℕ, List, Bool, IsTrue, ◌+◌, ◌≤◌, ◌&&◌, nat_le}
use Rattle.std.specs.declared.cmp.Ordering.{Ordering}
use Rattle.std.specs.declared.cmp.Ordering.TheVariants.{Less, Equal}
use Rattle.std.specs.Ordering.{nat_cmp}
use Rattle.std.specs.Cmp.{IsTotalOrder}
use Rattle.std.specs.Cmp.Lexicographic.{slice_cmp}

-- a port path cost: 1 to 200,000,000
abbrev pub is_cost : ℕ → Bool
is_cost n = nat_le 1 n && nat_le n 200_000_000

-- bridges B, ports P, vectors V
pub record Rules (B P V : Type 0) : Type 0 where
  -- how two vectors compare: the lower one is better
  pub order : V → V → Ordering
  -- the components that come first in the order, and that are greater in a root path priority vector than in the
  -- message that it is made of: all above the designated bridge
  pub leading : V → List ℕ
  -- the path costs of a vector, added up
  pub cost : V → ℕ
  -- a bridge's identifier, and a port's on its bridge
  pub bridge_id : B → ℕ
  pub port_id : P → ℕ
  -- whether the port's costs are in range
  pub in_range : P → Bool
  -- the bridge priority vector, with which the bridge would be the root
  pub bridge_vector : B → V
  -- the designated priority vector of a port whose bridge has this root priority vector
  pub designated_vector : V → B → P → V
  -- the root path priority vector that a bridge makes of a designated priority vector that its port hears: the
  -- message, the sender, the receiver, the receiver's port
  pub root_path_vector : V → B → B → P → V

-- how the leading parts of two vectors compare
abbrev pub leading_order : {B P V : Type 0} → Rules B P V → V → V → Ordering
leading_order m x y = slice_cmp nat_cmp (m.leading x) (m.leading y)

pub record IsMetric {B P V : Type 0} (m : Rules B P V) : Type 0 where
  pub total : IsTotalOrder m.order
  pub equal : (x y : V) → m.order x y ≡ Equal → x ≡ y
  -- the leading part counts first
  pub leads : (x y : V) → leading_order m x y ≡ Less → m.order x y ≡ Less
  -- a designated priority vector has the leading part of the bridge's root priority vector
  pub keeps : (x : V) (b : B) (p : P) → m.leading (m.designated_vector x b p) ≡ m.leading x
  -- a bridge priority vector costs nothing, and a root path adds one port's cost at most
  pub starts : (b : B) → m.cost (m.bridge_vector b) ≡ 0
  pub carries : (x : V) (b : B) (p : P) → m.cost (m.designated_vector x b p) ≡ m.cost x
  pub adds : (x : V) (s b : B) (p : P) → IsTrue (m.in_range p) → m.cost (m.root_path_vector x s b p) ≤ m.cost x + 200_000_000
  -- a designated priority vector tells whose it is
  pub tells : (x y : V) (b c : B) (p q : P) → m.designated_vector x b p ≡ m.designated_vector y c q → (m.bridge_id b ≡ m.bridge_id c) × (m.port_id p ≡ m.port_id q)
  -- each root path priority vector is worse than the message that it was made of
  pub increases : (x : V) (s b : B) (p : P) → IsTrue (m.in_range p) → leading_order m x (m.root_path_vector x s b p) ≡ Less
