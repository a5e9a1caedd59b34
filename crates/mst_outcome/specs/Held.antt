-- What a spanning tree holds: its bridges, the settings that ports have in it alone, and the outcome.
use Rattle.std.specs.Prelude.{ℕ, ◌≤◌, List, length}
use Rattle.mst_vector.specs.Rules.{Rules}
use Rattle.mst_topology.specs.Topology.{TreePort, Topology, IsTopology}
use Rattle.mst_topology.specs.Wiring.{topology_of}
use Rattle.mst_outcome.specs.Assignment.{Assignment, IsSettledFor}

pub record Tree (B P V : Type 0) : Type 0 where
  pub bridges : List (ℕ × B)
  pub own : List (ℕ × P)
  pub outcome : Assignment V

-- its topology on a wiring
abbrev pub topology_on : {B P V : Type 0} → List (TreePort ℕ ℕ ℕ P) → Tree B P V → Topology ℕ ℕ ℕ B P
topology_on wires tree = topology_of wires tree.bridges tree.own

-- it is a topology there for which the outcome is settled
pub record IsHeld {B P V : Type 0} (m : Rules B P V) (wires : List (TreePort ℕ ℕ ℕ P)) (tree : Tree B P V) : Type 0 where
  pub topology : IsTopology m (topology_on wires tree)
  pub size : length tree.bridges ≤ 1024
  pub settled : IsSettledFor m (topology_on wires tree) tree.outcome
