-- The rows of bridges whose table alone differs from that of the others of one name and revision.
use Rattle.std.specs.Prelude.{ℕ, ◌==◌, ◌&&◌, not, Bool, List, [], ◌∷◌, filter, length, if◌then◌else◌}
use Rattle.std.specs.List.{flat_map}
use Rattle.std.specs.FinMap as fin
use Rattle.mst_ids.specs.Vids.{runs_from}
use Rattle.mst_kinds.specs.declared.kind.Kind.TheVariants as kind
use Rattle.mst_kinds.specs.declared.summary_line.SummaryLine.TheVariants as summary_line
use Rattle.mst_rows.specs.Cells.{number, vids, word}
use Rattle.mst_rows.specs.Rows.{Row, row_of}
use Rattle.mst_tables.specs.Table.{tree_in}
use Rattle.mst_tables.specs.Tables.{Net, BridgeRow}
use Rattle.mst_tables.specs.After.{table_of}
use Rattle.mst_view.specs.Aggregation.{same_name}
use Rattle.mst_slips.specs.Regions.{is_named_first, bridges_with}
use Rattle.mst_slips.specs.Vids.{vids_that}

-- two regions have one name and one revision, by their first bridges: so their tables differ
abbrev pub is_namesake : List ℕ × BridgeRow → List ℕ × BridgeRow → Bool
is_namesake a b = a.1.revision == b.1.revision && same_name a.1.conf_name b.1.conf_name && not (same_name a.0 b.0)

-- a bridge is the only one of its region
abbrev pub is_alone : Net → List ℕ → Bool
is_alone net a = length (bridges_with net a) == 1

-- a bridge stands alone against a region of at least two bridges
abbrev pub is_odd : Net → List ℕ → List ℕ → Bool
is_odd net a b = is_alone net a && not (is_alone net b)

-- the VIDs that two tables map to different trees
abbrev pub vids_apart : List ℕ → List ℕ → List Bool
vids_apart table others = vids_that (λ vid. not (tree_in table vid == tree_in others vid))

-- `look region NAME REV B table without VIDS`
abbrev pub table_row : List ℕ → ℕ → List ℕ → List Bool → Row
table_row name revision bridge set = row_of (kind.Summary summary_line.LookTable) (word name ∷ number revision ∷ word bridge ∷ vids (runs_from 0 set) ∷ [])

-- of the first bridge of a region, beside the other regions of its name and revision: there is just one, so that all its bridges have
-- one table, and it is odd beside them
abbrev pub rows_beside : Net → List ℕ × BridgeRow → List (List ℕ × BridgeRow) → List Row
rows_beside net a [] = []
rows_beside net a (b ∷ []) = if is_odd net a.0 b.0 then table_row a.1.conf_name a.1.revision a.0 (vids_apart (table_of net a.0) (table_of net b.0)) ∷ [] else []
rows_beside net a (b ∷ c ∷ others) = []

-- of each of some regions among them
abbrev pub rows_among : Net → List (List ℕ × BridgeRow) → List Row
rows_among net firsts = flat_map (λ a. rows_beside net a (filter (is_namesake a) firsts)) firsts

-- of all bridges, by name
abbrev pub table_rows : Net → List Row
table_rows net = rows_among net (filter (is_named_first net) (fin.entries net.bridges))
