-- What the settling of one tree gives.
use Rattle.std.specs.Prelude.{ℕ, Option}
use Rattle.mst_vector.specs.Rules.{Rules}
use Rattle.mst_forest.specs.topology.Topology.{Topology}
use Rattle.mst_forest.specs.outcome.Assignment.{Assignment, vector_of, IsSettledFor}
use Rattle.mst_forest.specs.topology.Repair.{WithinBounds}

-- the settled outcome of a topology, within the bound from the vectors before
pub record IsSettledBy {B P V : Type 0} (m : Rules B P V) (t : Topology ℕ ℕ ℕ B P) (before : ℕ → Option V) (a : Assignment V) : Type 0 where
  pub outcome : IsSettledFor m t a
  pub bounds : WithinBounds before (vector_of a) a.settlings
