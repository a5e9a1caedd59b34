-- What is settled of a tree, with what a settler holds beside it.
use Rattle.std.specs.Prelude.{ℕ, List, Option, Bool}
use Rattle.std.specs.Ordering.{nat_cmp}
use Rattle.std.specs.Map.{lookup}
use Rattle.std.specs.BTreeMap.{is_at}
use Rattle.mst_vector.specs.Rules.{Rules}
use Rattle.mst_topology.specs.Topology.{Topology}
use Rattle.mst_topology.specs.Settled.{Settled, IsDesignated}
use Rattle.mst_topology.specs.Places.{flat}

-- the bridges and the LANs that have a place, with vectors and designated ports, those that have a mark with
-- whether they were touched, and how often the last repair wrote a vector
pub record Assignment (V : Type 0) : Type 0 where
  pub bridges : List (ℕ × Option V)
  pub lans : List (ℕ × Option ℕ)
  pub touched_bridges : List (ℕ × Bool)
  pub touched_lans : List (ℕ × Bool)
  pub settlings : ℕ

-- the vector of a bridge, and the designated port of a LAN
abbrev pub vector_of : {V : Type 0} → Assignment V → ℕ → Option V
vector_of a n = flat (lookup (is_at (nat_cmp n)) a.bridges)

abbrev pub designated_of : {V : Type 0} → Assignment V → ℕ → Option ℕ
designated_of a lan = flat (lookup (is_at (nat_cmp lan)) a.lans)

-- the vectors and designated ports of a topology
pub record IsSettledFor {B P V : Type 0} (m : Rules B P V) (t : Topology ℕ ℕ ℕ B P) (a : Assignment V) : Type 0 where
  pub vectors : Settled m t (vector_of a)
  pub designated : (lan : ℕ) → IsDesignated m t (vector_of a) lan (designated_of a lan)
