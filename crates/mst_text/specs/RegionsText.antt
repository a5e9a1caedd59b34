-- The rows of a network's regions.
use Rattle.std.specs.Prelude.{ℕ, List, [], ◌∷◌, filter, if◌then◌else◌}
use Rattle.std.specs.List.{flat_map}
use Rattle.std.specs.FinMap as fin
use Rattle.hex.specs.Hex.{encode_lower}
use Rattle.mst_kinds.specs.declared.kind.Kind.TheVariants as kind
use Rattle.mst_kinds.specs.declared.region_line.RegionLine.TheVariants as region_line
use Rattle.mst_rows.specs.Cells.{names, number, word}
use Rattle.mst_rows.specs.Rows.{Row, row_of}
use Rattle.mst_tables.specs.Tables.{Net, BridgeRow}
use Rattle.mst_tables.specs.After.{table_of}
use Rattle.mst_view.specs.Aggregation.{same_name}
use Rattle.mst_vlan.specs.forest.config.Digest.{digest_of}
use Rattle.mst_vlan.specs.forest.config.Regions.{same_region, first_of_region}

-- `region mstp CNAME REV DIGEST bridges B ..`, of the region that has this first bridge
abbrev pub mstp_row : List ℕ → BridgeRow → List ℕ → List (List ℕ) → Row
mstp_row first row digest bridges = row_of (kind.Region region_line.Mstp) (word first ∷ word row.conf_name ∷ number row.revision ∷ word digest ∷ names bridges ∷ [])

-- `region rstp bridges B`
abbrev pub rstp_row : List ℕ → List (List ℕ) → Row
rstp_row first bridges = row_of (kind.Region region_line.Rstp) (word first ∷ names bridges ∷ [])

-- of any region: its first bridge, with the bridge's table, and its bridges
abbrev pub region_row : List ℕ → BridgeRow → List ℕ → List (List ℕ) → Row
region_row first row table bridges = if row.is_rstp then rstp_row first bridges else mstp_row first row (encode_lower (digest_of table)) bridges

-- the bridges of a bridge's region, be they on or off, in byte order of names
abbrev pub bridges_of_region : Net → List ℕ → List (List ℕ)
bridges_of_region net name = filter (same_region net name) (fin.keys net.bridges)

-- the first bridge of a region gives the region's row, and the others none
abbrev pub rows_of_region : Net → List ℕ × BridgeRow → List Row
rows_of_region net bridge =
    if same_name (first_of_region net bridge.0) bridge.0 then region_row bridge.0 bridge.1 (table_of net bridge.0) (bridges_of_region net bridge.0) ∷ [] else []

-- a row for each region, by its first bridge in byte order of names
abbrev pub regions_rows : Net → List Row
regions_rows net = flat_map (rows_of_region net) (fin.entries net.bridges)
