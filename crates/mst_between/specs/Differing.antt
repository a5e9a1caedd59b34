-- What a change does: the rows of what differs between two networks, and how much of each does.
use Rattle.std.specs.Prelude.{List}
use Rattle.mst_tables.specs.Tables.{Net}
use Rattle.mst_rows.specs.Rows.{Row}
use Rattle.mst_forest.specs.Outcome.{Outcome, IsOutcome}
use Rattle.mst_diff.specs.DiffText.{AreDiffRowsOf}
use Rattle.mst_diff.specs.declared.diff.Differing.{Differing}

-- these rows tell what differs from one network to another, and these are its numbers, by a settled outcome of each
pub record Differs (a b : Net) (counts : Differing) (rows : List Row) : Type 0 where
  pub old : Outcome
  pub is_old : IsOutcome a old
  pub new : Outcome
  pub is_new : IsOutcome b new
  pub told : AreDiffRowsOf a old b new counts rows
