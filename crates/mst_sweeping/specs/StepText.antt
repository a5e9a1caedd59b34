-- The rows of what the steps of a change do.
use Rattle.std.specs.Prelude.{◌≡◌, ℕ, Bool, List, [], ◌∷◌, ◌++◌, map, Option, Some, None, if◌then◌else◌}
use Rattle.std.specs.List.{flat_map}
use Rattle.mst_kinds.specs.declared.advise_line.AdviseLine.TheVariants as advise_line
use Rattle.mst_kinds.specs.declared.kind.Kind.TheVariants as kind
use Rattle.mst_kinds.specs.declared.step_line.StepLine.TheVariants as line
use Rattle.mst_ids.specs.declared.name.PortName.{PortName}
use Rattle.mst_rows.specs.Cells.{lines, names, number, ports as ports_cell, trees, vids}
use Rattle.mst_rows.specs.Rows.{Row, row_of}
use Rattle.mst_net.specs.tables.Tables.{Net}
use Rattle.mst_plan.specs.forest.Outcome.{Outcome}
use Rattle.mst_graph.specs.Lists.{has_any}
use Rattle.mst_sweep.specs.declared.cuts.CutBy.{CutBy}
use Rattle.mst_sweep.specs.declared.cuts.CutBy.TheVariants as by
use Rattle.mst_sweep.specs.declared.event.Cause.TheVariants.{One}
use Rattle.mst_sweep.specs.declared.failure.Failure.{Failure}
use Rattle.mst_sweep.specs.Cuts.{AreCutsBy, group_rows, runs_of}
use Rattle.mst_sweep.specs.Moved.{moved_roots, moved_ports}
use Rattle.mst_sweep.specs.SweepText.{event_row}
use Rattle.mst_policy.specs.Leaving.{Leaving}
use Rattle.mst_sweeping.specs.MovedVids.{ArePartsBut, AreVidsWhere, IsJoinedBut, IsMoved}
use Rattle.mst_sweeping.specs.Restarts.{restarting}
use Rattle.mst_sweeping.specs.Seen.{AreReplugged}
use Rattle.mst_sweeping.specs.Turns.{lists_of, trees_with, turning}
use Rattle.mst_sweeping.specs.declared.step.Deed.{Deed}
use Rattle.mst_sweeping.specs.declared.step.Deed.TheVariants as deed
use Rattle.mst_sweeping.specs.declared.step.PolicyCounts.{PolicyCounts}
use Rattle.mst_sweeping.specs.declared.step.Step.{Step}
use Rattle.mst_sweeping.specs.declared.step.Stepped.{Stepped}
use Rattle.mst_sweeping.specs.declared.step.Walked.{Walked}

-- `step K lines N-M roots T,T ports P moved VIDS cut VIDS joined VIDS`
abbrev pub step_row : Step → List ℕ → ℕ → List (ℕ × ℕ) → List (ℕ × ℕ) → List (ℕ × ℕ) → Row
step_row step roots ports moved cut joined =
    row_of (kind.Step line.Step) (number step.number ∷ lines step.first step.last ∷ trees roots ∷ number ports ∷ vids moved ∷ vids cut ∷ vids joined ∷ [])

-- `does roots T,T ports P moved VIDS cut VIDS joined VIDS`, of edits that are advised
abbrev pub does_row : List ℕ → ℕ → List (ℕ × ℕ) → List (ℕ × ℕ) → List (ℕ × ℕ) → Row
does_row roots ports moved cut joined = row_of (kind.Advise advise_line.Does) (trees roots ∷ number ports ∷ vids moved ∷ vids cut ∷ vids joined ∷ [])

-- of either, and by what the VIDs are cut
abbrev pub deed_row : Deed → List ℕ → ℕ → List (ℕ × ℕ) → List (ℕ × ℕ) → List (ℕ × ℕ) → Row
deed_row (deed.Step step) roots ports moved cut joined = step_row step roots ports moved cut joined
deed_row deed.Edits roots ports moved cut joined = does_row roots ports moved cut joined

abbrev pub cut_by : Deed → CutBy
cut_by (deed.Step step) = by.Step step.number
cut_by deed.Edits = by.Edits

-- `turns T,.. B,..` behind a step: of each list of bridges that turn in some trees, by the least
abbrev pub turn_row : Step → List ℕ → List (List ℕ) → Row
turn_row step trees_of bridges = row_of (kind.Step line.Turns) (number step.number ∷ trees trees_of ∷ names bridges ∷ [])

abbrev pub turn_rows : Deed → List (ℕ × List (List ℕ)) → List Row
turn_rows (deed.Step step) turning = map (λ bridges. turn_row step (trees_with turning bridges) bridges) (lists_of turning)
turn_rows deed.Edits turning = []

-- `restarts B:P,..` behind a step: the logical ports that start anew, if there are any
abbrev pub restart_rows : Deed → List PortName → List Row
restart_rows (deed.Step step) restarting = if has_any restarting then row_of (kind.Step line.Restarts) (number step.number ∷ ports_cell restarting ∷ []) ∷ [] else []
restart_rows deed.Edits restarting = []

-- the rows behind those of what is cut
abbrev pub rows_behind : Deed → List (ℕ × List (List ℕ)) → List PortName → List Row
rows_behind step turning restarting = turn_rows step turning ++ restart_rows step restarting

-- that these are the ports that are plugged over in a step. Of edits that are advised nothing is asked, since nothing is told
abbrev pub AreRepluggedIn : Deed → Net → Net → (PortName → Bool) → Type 0
AreRepluggedIn (deed.Step step) a b is_over = AreReplugged a b is_over
AreRepluggedIn deed.Edits a b is_over = Unit {0}

-- these are the rows of what makes the one network of the other, where these bridges are meant to leave, and whether it moves some VID and cuts some
pub record AreStepRows (leaving : Leaving) (a : Net) (o : Outcome) (b : Net) (p : Outcome) (step : Deed) (rows : List Row) (told : Stepped) : Type 0 where
  pub moved : List ℕ
  pub cut : List ℕ
  pub joined : List ℕ
  pub cut_rows : List Row
  pub are_moved : AreVidsWhere (IsMoved a o b p) moved
  pub are_cut : AreCutsBy (ArePartsBut leaving a o b p) (cut_by step) cut cut_rows
  pub are_joined : AreVidsWhere (IsJoinedBut leaving a o b p) joined
  pub moves : told.moves ≡ has_any moved
  pub cuts : told.cuts ≡ has_any cut
  pub are : rows ≡ deed_row step (moved_roots a o b p) (moved_ports a o b p) (runs_of moved) (runs_of cut) (runs_of joined) ∷ cut_rows ++ rows_behind step (turning a o b p) (restarting a b)

-- `steps K moving M cutting C`, and with a policy ` failing F unkept U`
abbrev pub last_row : Walked → Option PolicyCounts → Row
last_row walked None = row_of (kind.Step line.Counts) (number walked.steps ∷ number walked.moving ∷ number walked.cutting ∷ [])
last_row walked (Some policy) =
    row_of (kind.Step line.JudgedCounts) (number walked.steps ∷ number walked.moving ∷ number walked.cutting ∷ number policy.failing ∷ number policy.unkept ∷ [])

-- a step is told as a failure is in a sweep: the same roots, the same number of ports, and the same VIDs cut into the same parts; behind
-- these stand the bridges that turn, and no port starts anew
pub record IsAsInSweep (step : Deed) (failure : Failure) (rows : List Row) (told : Stepped) (failed : List Row) (cuts : Bool) : Type 0 where
  pub roots : List ℕ
  pub ports : ℕ
  pub moved : List (ℕ × ℕ)
  pub cut : List (ℕ × ℕ)
  pub joined : List (ℕ × ℕ)
  pub parts : ℕ → List (List (List ℕ))
  pub groups : List (List ℕ)
  pub turning : List (ℕ × List (List ℕ))
  pub of_step : rows ≡ deed_row step roots ports moved cut joined ∷ flat_map (group_rows (cut_by step) parts) groups ++ turn_rows step turning
  pub of_failure : failed ≡ event_row (One failure) roots ports cut ∷ flat_map (group_rows (by.One (One failure)) parts) groups
  pub both_cut : told.cuts ≡ cuts
