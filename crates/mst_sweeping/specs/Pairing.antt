-- What pairs of failures of a network do.
use Rattle.std.specs.Prelude.{◌≡◌, ◌≤◌, ℕ, Bool, List, [], ◌∷◌, length, map}
use Rattle.std.specs.List.{AllByRecursion, AllZip, range_with_len}
use Rattle.mst_net.specs.tables.Tables.{Net, Numbers}
use Rattle.mst_rows.specs.Rows.{Row}
use Rattle.mst_plan.specs.forest.Outcome.{Outcome, IsOutcome}
use Rattle.mst_sweep.specs.declared.baseline.Baseline.{Baseline}
use Rattle.mst_sweep.specs.Baseline.{IsBaseline}
use Rattle.mst_sweep.specs.CutClasses.{AreKeptAlone, kept_of}
use Rattle.mst_sweep.specs.declared.failure.Failure.{Failure}
use Rattle.mst_sweep.specs.Failures.{failed, failures}
use Rattle.mst_sweep.specs.Pairs.{Pair, IsPairTold, IsPairsPart}
use Rattle.mst_sweep.specs.SweepParts.{PartOf, ToldOfPart}
use Rattle.mst_sweep.specs.declared.single.Single.{Single}
use Rattle.mst_plan.specs.Plan.{IsPlan}
use Rattle.mst_sweeping.specs.Sweeping.{AreToldBy}
use Rattle.mst_sweeping.specs.declared.pairing.Pairing.{Pairing}

-- these are the rows of the pairs of one part, and this is the number of those that cut some VID together, by a settled outcome of the
-- network
pub record SweepsPairs (part : PartOf) (net : Net) (cuts : ℕ) (rows : List Row) : Type 0 where
  pub outcome : Outcome
  pub is_outcome : IsOutcome net outcome
  pub told : IsPairsPart part net outcome rows cuts

-- this is told of each of so many parts, by their numbers
abbrev pub SweepPairsParts : Net → ℕ → List ToldOfPart → Type 0
SweepPairsParts net count parts = AllZip (λ number part. SweepsPairs (record { number = number; count = count }) net part.cuts part.rows) (range_with_len 1 count) parts

-- these pairs have these rows, one after another, and this many of them cut some VID
abbrev pub ArePairsTold : Net → Outcome → List Pair → ℕ → List Row → Type 0
ArePairsTold net o pairs cuts rows = AreToldBy (IsPairTold net o) pairs cuts rows

-- by the classes of VIDs, this is what is kept of a failure alone
pub record IsSingle (net : Net) (numbers : Numbers) (o : Outcome) (baseline : Baseline) (s : Single) : Type 0 where
  pub outcome : Outcome
  pub is_outcome : IsOutcome (failed (s.failure ∷ []) net) outcome
  pub kept : AreKeptAlone net o (failed (s.failure ∷ []) net) numbers outcome baseline.classes (kept_of s)

-- and of each of these failures
pub record AreSingles (net : Net) (numbers : Numbers) (o : Outcome) (baseline : Baseline) (all : List Failure) (singles : List Single) : Type 0 where
  pub failures : map (λ s. s.failure) singles ≡ all
  pub each : AllByRecursion (IsSingle net numbers o baseline) singles

-- it is kept for each class
abbrev pub HasHomes : Baseline → Single → Type 0
HasHomes baseline s = length s.homes.items ≡ length baseline.classes.firsts.items

-- the plan is that of the network, with what stays the same for all its failures and what is kept of each of them alone
pub record IsPairing (p : Pairing) : Type 0 where
  pub plan : IsPlan p.network.now.net p.network.now.numbers p.plan.now
  pub baseline : IsBaseline p.plan.now.view p.plan.now.forest p.baseline.now
  pub singles : AreSingles p.network.now.net p.network.now.numbers plan.forest.outcome p.baseline.now (failures p.network.now.net) p.singles.now
  pub few : length p.singles.now ≤ 9216

-- these are the rows of the pair of these two, and whether it cuts some VID
abbrev pub TellsPair : Net → Outcome → Single → Single → Bool → List Row → Type 0
TellsPair net o one other cuts rows = IsPairTold net o (record { first = one.failure; second = other.failure }) (record { rows = rows; cuts = cuts })
