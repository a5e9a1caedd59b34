-- What each single failure of a network does, and each risk.
use Rattle.std.specs.Prelude.{◌≡◌, ◌++◌, ℕ, List}
use Rattle.std.specs.List.{AllZip, count_by, flat_map, range_with_len}
use Rattle.mst_net.specs.tables.Tables.{Net, Numbers}
use Rattle.mst_rows.specs.Rows.{Row}
use Rattle.mst_plan.specs.forest.Outcome.{Outcome, IsOutcome}
use Rattle.mst_sweep.specs.declared.failure.Failure.{Failure}
use Rattle.mst_sweep.specs.Failures.{Event}
use Rattle.mst_sweep.specs.SweepText.{Told, IsTold, IsRiskSweep, IsSweep}
use Rattle.mst_sweep.specs.SweepParts.{PartOf, ToldOfPart, IsSweepPart}
use Rattle.mst_sweep.specs.declared.failure.Failure.TheVariants.{Lan, Bridge}
use Rattle.mst_view.specs.Viewed.{Viewed}
use Rattle.mst_plan.specs.lag.Renewed.{IsViewButLan, IsViewButBridge}

-- these are the rows of what each single failure does, and this is the number of those that cut some VID, by a settled outcome
-- of the network
pub record Sweeps (net : Net) (cuts : ℕ) (rows : List Row) : Type 0 where
  pub outcome : Outcome
  pub is_outcome : IsOutcome net outcome
  pub told : IsSweep net outcome rows cuts

-- and of one part of its failures
pub record SweepsPart (part : PartOf) (net : Net) (cuts : ℕ) (rows : List Row) : Type 0 where
  pub outcome : Outcome
  pub is_outcome : IsOutcome net outcome
  pub told : IsSweepPart part net outcome rows cuts

-- this is told of each of so many parts, by their numbers
abbrev pub SweepParts : Net → ℕ → List ToldOfPart → Type 0
SweepParts net count parts = AllZip (λ number part. SweepsPart (record { number = number; count = count }) net part.cuts part.rows) (range_with_len 1 count) parts

-- where this is told of a thing, these have these rows, one after another, and this many of them cut some VID
pub record AreToldBy {A : Type 0} (Tells : A → Told → Type 0) (things : List A) (cuts : ℕ) (rows : List Row) : Type 0 where
  pub told : List Told
  pub each : AllZip Tells things told
  pub counted : cuts ≡ count_by (λ t. t.cuts) told
  pub is : rows ≡ flat_map (λ t. t.rows) told

-- so do these events
abbrev pub AreTold : Net → Outcome → List Event → ℕ → List Row → Type 0
AreTold net o events cuts rows = AreToldBy (IsTold net o) events cuts rows

-- these are the rows of what each of these risks does, with a last one that counts them, and this is the number of those that cut some VID
pub record SweepsRisks (net : Net) (risks : List Event) (cuts : ℕ) (rows : List Row) : Type 0 where
  pub outcome : Outcome
  pub is_outcome : IsOutcome net outcome
  pub told : IsRiskSweep net outcome risks rows cuts

-- by what a printer tells of its rows: whatever rows were put into the old one, with these behind them they are in the one now
abbrev pub Puts : {P : Type 0} → (P → P → List Row → Type 0) → P → P → List Row → Type 0
Puts {P} grew old now rows = (first : P) (before : List Row) → grew first old before → grew first now (before ++ rows)

-- it is the view of a network that differs from this one in what fails at most
abbrev pub IsViewBut : Failure → Net → Numbers → Viewed → Type 0
IsViewBut (Lan lan) net numbers v = IsViewButLan lan net numbers v
IsViewBut (Bridge bridge) net numbers v = IsViewButBridge bridge net numbers v
