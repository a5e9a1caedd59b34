-- What is settled for a tree after an edit.
use Rattle.std.specs.Prelude.{ℕ, Option}
use Rattle.mst_vector.specs.Rules.{Rules}
use Rattle.mst_topology.specs.Topology.{Topology}
use Rattle.mst_outcome.specs.Assignment.{Assignment, vector_of, IsSettledFor}
use Rattle.mst_topology.specs.Repair.{WithinBounds}
use Rattle.mst_outcome.specs.Shared.{outcome_of}

-- what is settled, if anything is, is settled for this topology within the bound from the vectors before
pub record IsSettledOn {B P V : Type 0} (m : Rules B P V) (t : Topology ℕ ℕ ℕ B P) (before : ℕ → Option V) (outcome : Option (Assignment V)) (settlings : ℕ) : Type 0 where
  pub settled : IsSettledFor m t (outcome_of outcome settlings)
  pub bounds : WithinBounds before (vector_of (outcome_of outcome settlings)) settlings
