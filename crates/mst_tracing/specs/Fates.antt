-- What becomes of a path after single failures.
use Rattle.std.specs.Prelude.{◌≡◌, ◌≢◌, ◌++◌, ◌+◌, ℕ, not, List, [], ◌∷◌, length, map, filter, Option, None, Some}
use Rattle.std.specs.List.{AllZip, flat_map, fold}
use Rattle.mst_kinds.specs.declared.kind.Kind.TheVariants as kind
use Rattle.mst_kinds.specs.declared.path_line.PathLine.TheVariants as line
use Rattle.mst_net.specs.tables.Tables.{Net}
use Rattle.mst_path.specs.PathRows.{trace_cells}
use Rattle.mst_path.specs.Paths.{Hop, IsPathOf, bridges_met, path_told}
use Rattle.mst_path.specs.declared.trace.Trace.{Trace}
use Rattle.mst_roles.specs.forest.Outcome.{Outcome, IsOutcome}
use Rattle.mst_rows.specs.Cells as cell
use Rattle.mst_rows.specs.Rows.{Row, row_of}
use Rattle.mst_sweeping.specs.sweep.Cuts.{failing}
use Rattle.mst_sweeping.specs.sweep.Failures.{failed, failures}
use Rattle.mst_sweeping.specs.sweep.declared.failure.Failure.{Failure}
use Rattle.mst_sweeping.specs.sweep.declared.failure.Failure.TheVariants.{Lan, Bridge}
use Rattle.mst_tracing.specs.Ends.{is_of_end}
use Rattle.mst_tracing.specs.declared.always.Fate.{Fate}
use Rattle.mst_tracing.specs.declared.always.Fate.TheVariants as fate
use Rattle.mst_tracing.specs.declared.always.Fates.{Fates}

-- ---- the rows
-- `lan L hops N by A,..,B`, and of a bridge `bridge X ..`
abbrev pub other_path_row : Trace → Failure → ℕ → List (List ℕ) → Row
other_path_row t (Lan lan) hops bridges = row_of (kind.Path line.Lan) (trace_cells t ++ failing (Lan lan) ∷ cell.word lan ∷ cell.number hops ∷ cell.names bridges ∷ [])
other_path_row t (Bridge bridge) hops bridges = row_of (kind.Path line.Bridge) (trace_cells t ++ failing (Bridge bridge) ∷ cell.word bridge ∷ cell.number hops ∷ cell.names bridges ∷ [])

-- `lan L none`, and of a bridge `bridge X none`
abbrev pub no_path_row : Trace → Failure → Row
no_path_row t (Lan lan) = row_of (kind.Path line.NoneByLan) (trace_cells t ++ failing (Lan lan) ∷ cell.word lan ∷ [])
no_path_row t (Bridge bridge) = row_of (kind.Path line.NoneByBridge) (trace_cells t ++ failing (Bridge bridge) ∷ cell.word bridge ∷ [])

-- `path failures F other O none K`
abbrev pub counts_row : Trace → Fates → Row
counts_row t fates = row_of (kind.Path line.Counts) (trace_cells t ++ cell.number fates.failures ∷ cell.number fates.others ∷ cell.number fates.nones ∷ [])

-- ---- one failure
-- what a path that isn't the one before comes to, and the row that tells it
abbrev pub fate_of : Option (List Hop) → Fate
fate_of None = fate.None
fate_of (Some hops) = fate.Other

abbrev pub fate_row : Trace → Failure → Option (List Hop) → Row
fate_row t failure None = no_path_row t failure
fate_row t failure (Some hops) = other_path_row t failure (length hops) (bridges_met t.from hops)

-- what becomes of a path, by what it was before a failure and what it is after it: nothing is told of one whose ports and logical LANs are
-- the same, nor where there was none and is none
pub record IsFate (t : Trace) (failure : Failure) (before now : Option (List Hop)) (is : Fate) (rows : List Row) : Type 0 where
  pub same : path_told before ≡ path_told now → (is ≡ fate.Same) × (rows ≡ [])
  pub changed : path_told before ≢ path_told now → (is ≡ fate_of now) × (rows ≡ fate_row t failure now ∷ [])

-- the path of a settled outcome of this network
pub record HasPathIn (net : Net) (t : Trace) (path : Option (List Hop)) : Type 0 where
  pub outcome : Outcome
  pub is_outcome : IsOutcome net outcome
  pub is_path : IsPathOf net outcome t.vid t.from t.to path

-- what becomes of it in the network with a failure
pub record IsFateTold (net : Net) (t : Trace) (before : Option (List Hop)) (failure : Failure) (is : Fate) (rows : List Row) : Type 0 where
  pub path : Option (List Hop)
  pub has_path : HasPathIn (failed (failure ∷ []) net) t path
  pub told : IsFate t failure before path is rows

-- ---- all failures
-- those that are looked at: all but those of the two bridges, in the order of a sweep
abbrev pub looked_at : Trace → List Failure → List Failure
looked_at t all = filter (λ failure. not (is_of_end t failure)) all

-- before the first failure, and with one more
abbrev pub none_counted : Fates
none_counted = record { failures = 0; others = 0; nones = 0 }

abbrev pub counted_with : Fates → Fate → Fates
counted_with fates fate.Same = record fates { failures = fates.failures + 1 }
counted_with fates fate.Other = record fates { failures = fates.failures + 1; others = fates.others + 1 }
counted_with fates fate.None = record fates { failures = fates.failures + 1; nones = fates.nones + 1 }

-- what is told of a failure
pub record Told : Type 0 where
  pub fate : Fate
  pub rows : List Row

-- these are the rows of what becomes of a path after each failure that is looked at, with a last one that counts them
pub record AreFates (net : Net) (t : Trace) (before : Option (List Hop)) (fates : Fates) (rows : List Row) : Type 0 where
  pub told : List Told
  pub each : AllZip (λ failure one. IsFateTold net t before failure one.fate one.rows) (looked_at t (failures net)) told
  pub counted : fates ≡ fold counted_with none_counted (map (λ one. one.fate) told)
  pub are : rows ≡ flat_map (λ one. one.rows) told ++ counts_row t fates ∷ []
