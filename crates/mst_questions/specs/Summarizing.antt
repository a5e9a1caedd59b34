-- The summary of a network: the rows that tell its first screen.
use Rattle.std.specs.Prelude.{List}
use Rattle.mst_net.specs.tables.Tables.{Net}
use Rattle.mst_rows.specs.Rows.{Row}
use Rattle.mst_roles.specs.forest.Outcome.{Outcome, IsOutcome}
use Rattle.mst_picture.specs.summary.SummaryText.{AreSummaryRows}

-- these rows summarize the network, by a settled outcome of it
pub record Summarizes (net : Net) (rows : List Row) : Type 0 where
  pub outcome : Outcome
  pub is_outcome : IsOutcome net outcome
  pub told : AreSummaryRows net outcome rows
