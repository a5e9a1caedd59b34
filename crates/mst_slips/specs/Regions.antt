-- The rows of regions that most often were meant as one.
use Rattle.std.specs.Prelude.{ℕ, ◌==◌, ◌&&◌, ◌++◌, not, Bool, List, [], ◌∷◌, filter, if◌then◌else◌}
use Rattle.std.specs.List.{flat_map}
use Rattle.std.specs.FinMap as fin
use Rattle.mst_ids.specs.Texts.{mac_text}
use Rattle.mst_kinds.specs.declared.kind.Kind.TheVariants as kind
use Rattle.mst_kinds.specs.declared.summary_line.SummaryLine.TheVariants as summary_line
use Rattle.mst_rows.specs.Cells.{names, word}
use Rattle.mst_rows.specs.Rows.{Row, row_of}
use Rattle.mst_tables.specs.Tables.{Net, BridgeRow}
use Rattle.mst_tables.specs.After.{table_of}
use Rattle.mst_view.specs.Aggregation.{same_name}
use Rattle.mst_config.specs.Regions.{same_region, first_of_region}
use Rattle.mst_slips.specs.Near.{are_near}

-- a bridge of kind mstp whose configuration was given a name: one that was given none has the bridge's own MAC address
abbrev pub is_named : BridgeRow → Bool
is_named row = not row.is_rstp && not (same_name row.conf_name (mac_text row.mac))

-- the first bridge of its region, which has such a name
abbrev pub is_named_first : Net → List ℕ × BridgeRow → Bool
is_named_first net e = same_name (first_of_region net e.0) e.0 && is_named e.1

-- two such bridges have one revision and one table, and their names are nearly one
abbrev pub are_nearly_one : Net → List ℕ × BridgeRow → List ℕ × BridgeRow → Bool
are_nearly_one net a b = are_near a.1.conf_name b.1.conf_name && a.1.revision == b.1.revision && same_name (table_of net a.0) (table_of net b.0)

-- the bridges of a bridge's region, by name
abbrev pub bridges_with : Net → List ℕ → List (List ℕ)
bridges_with net a = filter (same_region net a) (fin.keys net.bridges)

-- `look region CNAME B,.. CNAME B,..`: the name and the bridges of the one region, and of the other
abbrev pub region_row : List ℕ → List (List ℕ) → List ℕ → List (List ℕ) → Row
region_row name bridges other others = row_of (kind.Summary summary_line.LookRegion) (word name ∷ names bridges ∷ word other ∷ names others ∷ [])

-- of two regions, by their first bridges, if they are nearly one
abbrev pub rows_of_two : Net → List ℕ × BridgeRow → List ℕ × BridgeRow → List Row
rows_of_two net a b = if are_nearly_one net a b then region_row a.1.conf_name (bridges_with net a.0) b.1.conf_name (bridges_with net b.0) ∷ [] else []

-- of the first with each behind it, and then of those behind it
abbrev pub rows_of_each_two : Net → List (List ℕ × BridgeRow) → List Row
rows_of_each_two net [] = []
rows_of_each_two net (a ∷ behind) = flat_map (rows_of_two net a) behind ++ rows_of_each_two net behind

-- of all regions, by the names of their first bridges
abbrev pub region_rows : Net → List Row
region_rows net = rows_of_each_two net (filter (is_named_first net) (fin.entries net.bridges))
