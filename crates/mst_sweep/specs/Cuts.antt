-- The VIDs that failures cut, and their parts.
use Rattle.std.specs.Prelude.{◌≡◌, ℕ, ◌-◌, true, List, [], ◌∷◌, Vec, filter, map, slice_index, slice_index_or, if◌then◌else◌}
use Rattle.std.specs.Global.{Global}
use Rattle.std.specs.List.{flat_map}
use Rattle.mst_ids.specs.Vids.{is_vid, runs_from, set_where}
use Rattle.mst_kinds.specs.declared.advise_line.AdviseLine.TheVariants as advise_line
use Rattle.mst_kinds.specs.declared.kind.Kind.TheVariants as kind
use Rattle.mst_kinds.specs.declared.step_line.StepLine.TheVariants as step_line
use Rattle.mst_kinds.specs.declared.sweep_line.SweepLine.TheVariants as line
use Rattle.mst_rows.specs.Cells.{Cell}
use Rattle.mst_rows.specs.Cells as cell
use Rattle.mst_rows.specs.Rows.{Row, row_of}
use Rattle.mst_graph.specs.Groups.{AreGroups}
use Rattle.mst_net.specs.tables.Tables.{Net}
use Rattle.mst_view.specs.Trees.{is_among}
use Rattle.mst_vlan.specs.forest.Outcome.{Outcome}
use Rattle.mst_vlan.specs.classes.AllVids.{all_vids}
use Rattle.mst_graph.specs.Lists.{has_any}
use Rattle.mst_sweep.specs.declared.cuts.CutBy.{CutBy}
use Rattle.mst_sweep.specs.declared.cuts.CutBy.TheVariants.{One, Both, Step, Edits}
use Rattle.mst_sweep.specs.declared.cuts.Cuts.{Cuts}
use Rattle.mst_sweep.specs.declared.event.Cause.{Cause}
use Rattle.mst_sweep.specs.declared.event.Cause.TheVariants as cause
use Rattle.mst_sweep.specs.declared.failure.Failure.{Failure}
use Rattle.mst_sweep.specs.declared.failure.Failure.TheVariants.{Lan, Bridge}
use Rattle.mst_sweep.specs.Parts.{AreParts}

-- what fails, as a value
abbrev pub failing : Failure → Cell
failing (Lan lan) = cell.failed_lan lan
failing (Bridge bridge) = cell.failed_bridge bridge

-- what an event is told by
abbrev pub cause_cell : Cause → Cell
cause_cell (cause.One failure) = failing failure
cause_cell (cause.Risk name) = cell.failed_risk name

-- VIDs, as their longest runs
abbrev pub runs_of : List ℕ → List (ℕ × ℕ)
runs_of vids = runs_from 0 (set_where (is_among vids))

-- `cut VIDS parts P P ..`, of VIDs that have these parts: the record has what fails, or the number of the step, too
abbrev pub cut_row : CutBy → List (ℕ × ℕ) → List (List (List ℕ)) → Row
cut_row (One event) runs parts = row_of (kind.Sweep line.Cut) (cause_cell event ∷ cell.vids runs ∷ cell.groups parts ∷ [])
cut_row (Both first second) runs parts = row_of (kind.Sweep line.CutByPair) (failing first ∷ failing second ∷ cell.vids runs ∷ cell.groups parts ∷ [])
cut_row (Step step) runs parts = row_of (kind.Step step_line.Cut) (cell.number step ∷ cell.vids runs ∷ cell.groups parts ∷ [])
cut_row Edits runs parts = row_of (kind.Advise advise_line.Cut) (cell.vids runs ∷ cell.groups parts ∷ [])

-- of a group of VIDs, by the parts of its first, if there are any
abbrev pub group_row : CutBy → List ℕ → List (List (List ℕ)) → List Row
group_row by group parts = if has_any parts then cut_row by (runs_of group) parts ∷ [] else []

abbrev pub group_rows : CutBy → (ℕ → List (List (List ℕ))) → List ℕ → List Row
group_rows by parts [] = []
group_rows by parts (vid ∷ others) = group_row by (vid ∷ others) (parts vid)

-- Where each VID has parts by this relation, these are the VIDs that have some, and these are the rows of the groups of VIDs of equal
-- parts, by the least VID
pub record AreCutsBy (HasParts : ℕ → List (List (List ℕ)) → Type 0) (by : CutBy) (vids : List ℕ) (rows : List Row) : Type 0 where
  pub parts : ℕ → List (List (List ℕ))
  pub are_parts : (vid : ℕ) → is_vid vid ≡ true → HasParts vid (parts vid)
  pub groups : List (List ℕ)
  pub are_groups : AreGroups (λ x y. parts x ≡ parts y) all_vids groups
  pub cut : vids ≡ filter (λ vid. has_any (parts vid)) all_vids
  pub are : rows ≡ flat_map (group_rows by parts) groups

-- these are the VIDs that a change cuts, and these are their rows
abbrev pub AreCuts : Net → Outcome → Net → Outcome → Cause → List ℕ → List Row → Type 0
AreCuts a o b p event vids rows = AreCutsBy (AreParts a o b p) (One event) vids rows

-- ---- as they are kept
-- parts, by the names of their bridges
abbrev pub names_of : Vec (Vec (List ℕ) Global) Global → List (List (List ℕ))
names_of parts = map (λ names. names.items) parts.items

-- the parts of the number that a VID has
abbrev pub parts_at : List ℕ → List (List (List (List ℕ))) → ℕ → List (List (List ℕ))
parts_at numbers parts vid = slice_index_or parts (slice_index numbers (vid - 1)) []

-- the rows of these groups
abbrev pub rows_of : CutBy → List ℕ → Cuts → List Row
rows_of by numbers cuts = flat_map (λ group. group_rows by (parts_at numbers (map names_of cuts.parts.items)) group.items) cuts.groups.items
