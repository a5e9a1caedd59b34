-- One tree under the numbers of records, and what its settling needs.
use Rattle.std.specs.Prelude.{◌≡◌, ◌≢◌, ℕ, ◌≤◌, true, List, IsTrue, length}
use Rattle.std.specs.List.{AllByRecursion, Contains}
use Rattle.mst_vector.specs.Rules.{Rules}
use Rattle.mst_topology.specs.Topology.{TreePort, Topology}
use Rattle.mst_forest.specs.Apart.{Apart}

-- these bridges and ports
abbrev pub topology_by_number : {B P : Type 0} → List (ℕ × B) → List (TreePort ℕ ℕ ℕ P) → Topology ℕ ℕ ℕ B P
topology_by_number bridges ports = record { bridges = bridges; ports = ports }

-- two bridges differ in number and identifier
pub record BridgesDiffer {B P V : Type 0} (m : Rules B P V) (a b : ℕ × B) : Type 0 where
  pub numbers : a.0 ≢ b.0
  pub identifiers : m.bridge_id a.1 ≢ m.bridge_id b.1

-- two ports differ in number, and on one bridge in identifier
pub record PortsDiffer {B P V : Type 0} (m : Rules B P V) (p q : TreePort ℕ ℕ ℕ P) : Type 0 where
  pub numbers : p.number ≢ q.number
  pub identifiers : p.bridge ≡ q.bridge → m.port_id p.settings ≢ m.port_id q.settings

-- no two are the same, each port takes part, its bridge is among these, and its costs are in range
pub record CanSettle {B P V : Type 0} (m : Rules B P V) (bridges : List (ℕ × B)) (ports : List (TreePort ℕ ℕ ℕ P)) : Type 0 where
  pub bridges_differ : Apart (BridgesDiffer m) bridges
  pub ports_differ : Apart (PortsDiffer m) ports
  pub take_part : AllByRecursion (λ p. p.is_part ≡ true) ports
  pub have_bridge : AllByRecursion (λ p. (b : B) × Contains bridges (p.bridge, b)) ports
  pub in_range : AllByRecursion (λ p. IsTrue (m.in_range p.settings)) ports
  pub few : length bridges ≤ 1024
