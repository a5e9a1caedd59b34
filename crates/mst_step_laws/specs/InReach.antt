-- A step of a change beside the diff of the networks before it and after it.
use Rattle.std.specs.Prelude.{ℕ, List}
use Rattle.std.specs.List.{Contains}
use Rattle.mst_net.specs.tables.Tables.{Net, IsNetwork}
use Rattle.mst_rows.specs.Rows.{Row}
use Rattle.mst_forest.specs.Outcome.{Outcome, IsOutcome}
use Rattle.mst_diff.specs.DiffText.{AreDiffRowsOf}
use Rattle.mst_diff.specs.Reach.{AreSides, Sides, reach_row}
use Rattle.mst_diff.specs.declared.diff.Differing.{Differing}
use Rattle.mst_policy.specs.Leaving.{Leaving}
use Rattle.mst_verdict.specs.sweep.Cuts.{runs_of}
use Rattle.mst_verdict.specs.sweeping.StepText.{AreStepRows}
use Rattle.mst_verdict.specs.sweeping.declared.step.Deed.{Deed}
use Rattle.mst_verdict.specs.sweeping.declared.step.Stepped.{Stepped}

-- two networks with a settled outcome of each
pub record AreSettled (a : Net) (o : Outcome) (b : Net) (p : Outcome) : Type 0 where
  pub is_old : IsNetwork a
  pub is_new : IsNetwork b
  pub old : IsOutcome a o
  pub new : IsOutcome b p

-- what a step does between two networks, and all rows of their diff. Each is told by settled outcomes of its own
pub record StepAndDiff (a b : Net) : Type 0 where
  pub o : Outcome
  pub p : Outcome
  pub stepped : AreSettled a o b p
  pub leaving : Leaving
  pub deed : Deed
  pub rows : List Row
  pub told : Stepped
  pub step : AreStepRows leaving a o b p deed rows told
  pub q : Outcome
  pub r : Outcome
  pub diffed : AreSettled a q b r
  pub counts : Differing
  pub changes : List Row
  pub diff : AreDiffRowsOf a q b r counts changes

-- among the rows of a diff is `reach VIDS OLD -> NEW` with a VID among its VIDs, and with the VID's islands: those before that aren't there
-- afterwards, and those afterwards that weren't there before
pub record IsInReach (a : Net) (q : Outcome) (b : Net) (r : Outcome) (changes : List Row) (vid : ℕ) : Type 0 where
  pub sides : Sides
  pub are_sides : AreSides a q b r vid sides
  pub group : List ℕ
  pub in_group : Contains group vid
  pub is_row : Contains changes (reach_row (runs_of group) sides)

-- so it is among those of the diff beside a step
abbrev pub IsInDiff : (a b : Net) → StepAndDiff a b → ℕ → Type 0
IsInDiff a b t vid = IsInReach a t.q b t.r t.changes vid
