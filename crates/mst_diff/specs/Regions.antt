-- The rows of bridges whose region is another one.
use Rattle.std.specs.Prelude.{ℕ, ◌&&◌, List, [], ◌∷◌, Option, None, Some, if◌then◌else◌}
use Rattle.std.specs.List.{flat_map}
use Rattle.std.specs.Option.{option_map_or}
use Rattle.std.specs.FinMap as fin
use Rattle.mst_kinds.specs.declared.change_line.ChangeLine.TheVariants as change_line
use Rattle.mst_kinds.specs.declared.kind.Kind.TheVariants as kind
use Rattle.mst_tables.specs.Tables.{Net, BridgeRow}
use Rattle.mst_view.specs.Aggregation.{same_name}
use Rattle.mst_vlan.specs.forest.config.Regions.{first_of_region}
use Rattle.mst_rows.specs.Cells.{object, word}
use Rattle.mst_rows.specs.Rows.{Row, region, row_of}
use Rattle.mst_facts.specs.Told.{same_told}

-- the name and the revision of a bridge's configuration, if it is of kind mstp
abbrev pub configuration : BridgeRow → Option (List ℕ × ℕ)
configuration row = if row.is_rstp then None else Some (row.conf_name, row.revision)

-- `region B NAME REVISION FIRST -> NAME REVISION FIRST`: what tells a bridge's region, with its first bridge
abbrev pub region_row : List ℕ → BridgeRow → List ℕ → BridgeRow → List ℕ → Row
region_row name old first new other = row_of (kind.Change change_line.Region) (word name ∷ object (region (configuration old) first) ∷ object (region (configuration new) other) ∷ [])

-- where the kind, the name, the revision or the first bridge differs
abbrev pub region_unless : List ℕ → BridgeRow → List ℕ → BridgeRow → List ℕ → List Row
region_unless name old first new other = if same_told old new && same_name first other then [] else region_row name old first new other ∷ []

-- of a bridge of the one network, if it is in the other, too
abbrev pub region_change : Net → Net → List ℕ × BridgeRow → List Row
region_change a b e = option_map_or (λ row. region_unless e.0 e.1 (first_of_region a e.0) row (first_of_region b e.0)) (fin.get b.bridges e.0) []

-- of all bridges, on or off, in byte order of names
abbrev pub region_changes : Net → Net → List Row
region_changes a b = flat_map (region_change a b) (fin.entries a.bridges)
