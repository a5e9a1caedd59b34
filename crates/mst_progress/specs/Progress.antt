-- What the keys of bridges are found from.
use Rattle.std.specs.Prelude.{ℕ, ◌^◌, ◌==◌, List, Option, cond}
use Rattle.mst_vector.specs.Rules.{Rules}
use Rattle.mst_topology.specs.Topology.{Topology, IsTopology}
use Rattle.mst_topology.specs.Places.{option_at}
use Rattle.mst_topology.specs.Settled.{IsDesignated}
use Rattle.mst_topology.specs.Settling.{CostsWithin}

-- a topology and the vectors of its bridges so far
pub record Progress (B P V : Type 0) : Type 0 where
  pub topology : Topology ℕ ℕ ℕ B P
  pub vectors : List (ℕ × Option V)

-- the vector of a bridge
abbrev pub vector_of : {B P V : Type 0} → Progress B P V → ℕ → Option V
vector_of s = option_at s.vectors

-- the vectors, but for one bridge, which has this one, or none
abbrev pub vectors_with : {V : Type 0} → (ℕ → Option V) → ℕ → Option V → ℕ → Option V
vectors_with v bridge stored = λ n. cond (n == bridge) stored (v n)

-- the designated ports are those by the vectors, and no cost is so high that a step would overflow
pub record IsProgress {B P V : Type 0} (m : Rules B P V) (t : Topology ℕ ℕ ℕ B P) (v : ℕ → Option V) (ports : ℕ → Option ℕ) : Type 0 where
  pub topology : IsTopology m t
  pub costs : CostsWithin m v (2 ^ 62)
  pub designated : (lan : ℕ) → IsDesignated m t v lan (ports lan)
