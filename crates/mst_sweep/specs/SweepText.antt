-- The rows of what each single failure of a network does, and each risk.
use Rattle.std.specs.Prelude.{◌≡◌, ℕ, Bool, true, false, List, [], ◌∷◌, ◌++◌, length}
use Rattle.std.specs.List.{AllZip, count_by, flat_map}
use Rattle.mst_kinds.specs.declared.kind.Kind.TheVariants as kind
use Rattle.mst_kinds.specs.declared.sweep_line.SweepLine.{SweepLine}
use Rattle.mst_kinds.specs.declared.sweep_line.SweepLine.TheVariants as line
use Rattle.mst_rows.specs.Cells.{trees, number}
use Rattle.mst_rows.specs.Cells as cell
use Rattle.mst_rows.specs.Rows.{Row, row_of}
use Rattle.mst_net.specs.tables.Tables.{Net}
use Rattle.mst_vlan.specs.forest.Outcome.{Outcome, IsOutcome}
use Rattle.mst_graph.specs.Lists.{has_any}
use Rattle.mst_sweep.specs.declared.cuts.CutBy.TheVariants as by
use Rattle.mst_sweep.specs.declared.event.Cause.{Cause}
use Rattle.mst_sweep.specs.declared.event.Cause.TheVariants.{One, Risk}
use Rattle.mst_sweep.specs.declared.failure.Failure.{Failure}
use Rattle.mst_sweep.specs.declared.failure.Failure.TheVariants.{Lan, Bridge}
use Rattle.mst_sweep.specs.Failures.{Event, alone, failed, failures}
use Rattle.mst_sweep.specs.Moved.{moved_roots, moved_ports}
use Rattle.mst_sweep.specs.Cuts.{AreCuts, cause_cell, group_rows, runs_of}

-- `lan L roots T,T ports N cut VIDS`, of a bridge `bridge B ..`, and of a risk `risk NAME ..`
abbrev pub event_line : Cause → SweepLine
event_line (One (Lan lan)) = line.Lan
event_line (One (Bridge bridge)) = line.Bridge
event_line (Risk name) = line.Risk

-- the name of the LAN, of the bridge or of the risk
abbrev pub cause_name : Cause → List ℕ
cause_name (One (Lan lan)) = lan
cause_name (One (Bridge bridge)) = bridge
cause_name (Risk name) = name

abbrev pub event_row : Cause → List ℕ → ℕ → List (ℕ × ℕ) → Row
event_row cause roots ports runs =
    row_of (kind.Sweep (event_line cause)) (cause_cell cause ∷ cell.word (cause_name cause) ∷ trees roots ∷ number ports ∷ cell.vids runs ∷ [])

-- these are the rows of an event that makes the one network of the other, and whether it cuts some VID
pub record AreEventRows (a : Net) (o : Outcome) (b : Net) (p : Outcome) (cause : Cause) (rows : List Row) (cuts : Bool) : Type 0 where
  pub vids : List ℕ
  pub cut : List Row
  pub are_cuts : AreCuts a o b p cause vids cut
  pub some : cuts ≡ has_any vids
  pub are : rows ≡ event_row cause (moved_roots a o b p) (moved_ports a o b p) (runs_of vids) ∷ cut

-- what is told of an event: its rows, and whether it cuts some VID
pub record Told : Type 0 where
  pub rows : List Row
  pub cuts : Bool

-- what is told of an event of a network with this outcome, by a settled outcome of the network with all its failures
pub record IsTold (net : Net) (o : Outcome) (event : Event) (told : Told) : Type 0 where
  pub outcome : Outcome
  pub is_outcome : IsOutcome (failed event.failures net) outcome
  pub is : AreEventRows net o (failed event.failures net) outcome event.cause told.rows told.cuts

-- two are told of the same failures, by two causes: the same roots, the same number of ports, and the same VIDs cut into the same parts
pub record IsToldAs (cause other : Cause) (told also : Told) : Type 0 where
  pub roots : List ℕ
  pub ports : ℕ
  pub cut : List (ℕ × ℕ)
  pub parts : ℕ → List (List (List ℕ))
  pub groups : List (List ℕ)
  pub is : told.rows ≡ event_row cause roots ports cut ∷ flat_map (group_rows (by.One cause) parts) groups
  pub is_also : also.rows ≡ event_row other roots ports cut ∷ flat_map (group_rows (by.One other) parts) groups
  pub both_cut : told.cuts ≡ also.cuts

-- whether it is a LAN that fails, or a bridge
abbrev pub is_lan : Failure → Bool
is_lan (Lan lan) = true
is_lan (Bridge bridge) = false

abbrev pub is_bridge : Failure → Bool
is_bridge (Lan lan) = false
is_bridge (Bridge bridge) = true

-- `sweep lans N bridges M cuts K`
abbrev pub sweep_row : List Failure → ℕ → Row
sweep_row all cuts = row_of (kind.Sweep line.Counts) (number (count_by is_lan all) ∷ number (count_by is_bridge all) ∷ number cuts ∷ [])

-- `sweep risks N cuts K`
abbrev pub risks_row : List Event → ℕ → Row
risks_row all cuts = row_of (kind.Sweep line.RiskCounts) (number (length all) ∷ number cuts ∷ [])

-- where this is told of a thing, these are the rows of all of these, one after another, with a last row, and this is the number of
-- those that cut some VID
pub record AreRowsOf {A : Type 0} (Tells : A → Told → Type 0) (last : List A → ℕ → Row) (all : List A) (rows : List Row) (cuts : ℕ) : Type 0 where
  pub told : List Told
  pub each : AllZip Tells all told
  pub counted : cuts ≡ count_by (λ t. t.cuts) told
  pub is : rows ≡ flat_map (λ t. t.rows) told ++ last all cuts ∷ []

-- of these failures, each alone, with a last row that counts them
abbrev pub IsSweepOf : Net → Outcome → List Failure → List Row → ℕ → Type 0
IsSweepOf net o all rows cuts = AreRowsOf (λ failure told. IsTold net o (alone failure) told) sweep_row all rows cuts

-- and of these risks
abbrev pub IsRiskSweep : Net → Outcome → List Event → List Row → ℕ → Type 0
IsRiskSweep net o risks rows cuts = AreRowsOf (IsTold net o) risks_row risks rows cuts

-- and of all failures of the network
abbrev pub IsSweep : Net → Outcome → List Row → ℕ → Type 0
IsSweep net o rows cuts = IsSweepOf net o (failures net) rows cuts
