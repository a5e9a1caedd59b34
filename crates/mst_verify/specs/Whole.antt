-- What failures cut of a network, and of one in which all bridges reach each other.
use Rattle.std.specs.Prelude.{◌≡◌, ℕ, true, Bool, List, [], ◌∷◌}
use Rattle.std.specs.List.{AllByRecursion, Contains}
use Rattle.std.specs.FinMap as fin
use Rattle.mst_ids.specs.Vids.{has, runs_from}
use Rattle.mst_rows.specs.Rows.{Row}
use Rattle.mst_policy.specs.declared.expectation.Expectation.{Expectation}
use Rattle.mst_policy.specs.declared.expectation.Expectation.TheVariants as expect
use Rattle.mst_policy.specs.declared.item.NameItem.TheVariants.{Any}
use Rattle.mst_net.specs.tables.Tables.{Net, IsNetwork}
use Rattle.mst_island_judges.specs.judged.reasons.sweep.vlan.classes.AllVids.{all_vids}
use Rattle.mst_roles.specs.forest.Outcome.{Outcome, IsOutcome}
use Rattle.mst_island_judges.specs.judged.reasons.sweep.Cuts.{cut_row}
use Rattle.mst_island_judges.specs.judged.reasons.sweep.declared.cuts.CutBy.TheVariants.{One}
use Rattle.mst_island_judges.specs.judged.reasons.sweep.Failures.{failed, failures}
use Rattle.mst_island_judges.specs.judged.reasons.sweep.declared.event.Cause.{Cause}
use Rattle.mst_island_judges.specs.judged.reasons.sweep.declared.failure.Failure.{Failure}
use Rattle.mst_island_judges.specs.judged.reasons.Holds.{AllReach}
use Rattle.mst_island_judges.specs.judged.reasons.Named.{vids_in}
use Rattle.mst_island_judges.specs.judged.reasons.declared.reason.Reason.{Reason}
use Rattle.mst_island_judges.specs.judged.reasons.declared.reason.Reason.TheVariants as why

-- in each of the VIDs all bridges reach each other
abbrev pub IsWhole : Net → Outcome → List Bool → Type 0
IsWhole net o vids = AllReach net o vids (fin.keys net.bridges)

-- `reach VIDS *`
abbrev pub reach_all : List Bool → Expectation
reach_all vids = expect.Reach vids (Any ∷ [])

-- these are failures of a network with this outcome, and with them it has that one
pub record Fails (net : Net) (o : Outcome) (those : List Failure) (p : Outcome) : Type 0 where
  pub is_network : IsNetwork net
  pub is_outcome : IsOutcome net o
  pub can_fail : AllByRecursion (Contains (failures net)) those
  pub is_failed : IsOutcome (failed those net) p

-- `together VIDS *`
abbrev pub all_together : List Bool → Expectation
all_together vids = expect.Together vids (Any ∷ [])

-- a reason of it after an event as a row of a sweep
abbrev pub as_cut : Cause → Reason → List Row
as_cut cause (why.Together vids parts) = cut_row (One cause) (runs_from 0 vids) parts ∷ []
as_cut cause _ = []

-- none of the VIDs is cut
abbrev pub NoneIsCut : List Bool → List ℕ → Type 0
NoneIsCut vids cut = (vid : ℕ) → Contains (vids_in vids) vid → Contains cut vid → ⊥

-- these are all VIDs
abbrev pub AreAllVids : List Bool → Type 0
AreAllVids vids = (vid : ℕ) → Contains all_vids vid → has vids vid ≡ true
