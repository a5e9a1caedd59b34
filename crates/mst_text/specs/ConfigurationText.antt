-- The rows of the MST configuration that a bridge keeps.
use Rattle.std.specs.Prelude.{ℕ, ◌==◌, ◌&&◌, Bool, List, [], ◌∷◌, Option, map}
use Rattle.std.specs.Option.{option_map}
use Rattle.std.specs.FinMap as fin
use Rattle.hex.specs.Hex.{encode_lower}
use Rattle.mst_ids.specs.Vids.{is_vid, runs_from, set_where}
use Rattle.mst_kinds.specs.declared.kind.Kind.TheVariants as kind
use Rattle.mst_kinds.specs.declared.region_line.RegionLine.TheVariants as region_line
use Rattle.mst_rows.specs.Cells.{number, vids, word}
use Rattle.mst_rows.specs.Rows.{Row, row_of}
use Rattle.mst_tables.specs.Table.{tree_in, mstis_in}
use Rattle.mst_tables.specs.Tables.{Net, BridgeRow}
use Rattle.mst_tables.specs.After.{table_of}
use Rattle.mst_vlan.specs.forest.config.Digest.{digest_of}

-- the VIDs that a table maps to a tree
abbrev pub vids_in : List ℕ → ℕ → List Bool
vids_in table tree = set_where (λ vid. is_vid vid && tree_in table vid == tree)

-- `msti T vids VIDS`, of the bridge whose configuration it is
abbrev pub msti_row : List ℕ → ℕ → List Bool → Row
msti_row bridge tree set = row_of (kind.Region region_line.Msti) (word bridge ∷ number tree ∷ vids (runs_from 0 set) ∷ [])

-- a row for each tree beside the CIST that the table maps some VID to, in rising order
abbrev pub mstis_rows : List ℕ → List ℕ → List Row
mstis_rows bridge table = map (λ tree. msti_row bridge tree (vids_in table tree)) (mstis_in table)

-- `mstconfid B name CNAME revision REV digest DIGEST`
abbrev pub configuration_row : List ℕ → BridgeRow → List ℕ → Row
configuration_row bridge row digest = row_of (kind.Region region_line.Configuration) (word bridge ∷ word row.conf_name ∷ number row.revision ∷ word digest ∷ [])

-- of a bridge: its configuration, and the trees of its table. One of kind rstp shows what it keeps
abbrev pub rows_of_bridge : List ℕ → BridgeRow → List ℕ → List Row
rows_of_bridge bridge row table = configuration_row bridge row (encode_lower (digest_of table)) ∷ mstis_rows bridge table

-- of the bridge of this name, if there is one
abbrev pub configuration_rows : Net → List ℕ → Option (List Row)
configuration_rows net bridge = option_map (λ row. rows_of_bridge bridge row (table_of net bridge)) (fin.get net.bridges bridge)
