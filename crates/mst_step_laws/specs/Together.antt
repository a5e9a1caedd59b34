-- Bridges that a step of a change parts, and what promises that all stay together.
use Rattle.std.specs.Prelude.{◌≡◌, ℕ, Bool, true, List, [], ◌∷◌, Some}
use Rattle.std.specs.List.{Contains}
use Rattle.mst_ids.specs.Vids.{has, runs_from}
use Rattle.mst_rows.specs.Rows.{Row}
use Rattle.mst_diff.specs.vlan.classes.AllVids.{all_vids}
use Rattle.mst_forest.specs.Outcome.{Outcome}
use Rattle.mst_net.specs.tables.Tables.{Net}
use Rattle.mst_policy.specs.Leaving.{Leaving}
use Rattle.mst_policy.specs.declared.expectation.Expectation.{Expectation}
use Rattle.mst_policy.specs.declared.expectation.Expectation.TheVariants as expect
use Rattle.mst_policy.specs.declared.item.NameItem.TheVariants.{Any}
use Rattle.mst_verdict.specs.sweep.Cuts.{cut_row}
use Rattle.mst_verdict.specs.sweep.declared.cuts.CutBy.TheVariants.{Step}
use Rattle.mst_verdict.specs.reasons.Named.{Prior}
use Rattle.mst_verdict.specs.reasons.declared.reason.Reason.{Reason}
use Rattle.mst_verdict.specs.reasons.declared.reason.Reason.TheVariants as why

-- `together 1-4094 *`
abbrev pub together_all : List Bool → Expectation
together_all vids = expect.Together vids (Any ∷ [])

abbrev pub AreAllVids : List Bool → Type 0
AreAllVids vids = (vid : ℕ) → Contains all_vids vid → has vids vid ≡ true

-- the network before a step, where these bridges are meant to leave
abbrev pub prior_but : Leaving → Net → Outcome → Prior
prior_but leaving net o = record { before = Some (net, o); leaving = leaving }

-- a reason of it behind a step, as a `cut` line of the step
abbrev pub as_cut : ℕ → Reason → List Row
as_cut step (why.Together vids parts) = cut_row (Step step) (runs_from 0 vids) parts ∷ []
as_cut step _ = []
