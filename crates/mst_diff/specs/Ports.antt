-- The rows of logical ports whose roles are other ones.
use Rattle.std.specs.Prelude.{List}
use Rattle.std.specs.List.{flat_map}
use Rattle.mst_tables.specs.Tables.{Net}
use Rattle.mst_vlan.specs.forest.Outcome.{Outcome}
use Rattle.mst_vlan.specs.forest.AllTrees.{all_trees}
use Rattle.mst_changes.specs.PortChanges.{port_change_rows}
use Rattle.mst_rows.specs.Rows.{Row}

-- those of the changes, by trees, rising
abbrev pub port_rows : Net → Outcome → Net → Outcome → List Row
port_rows a o b p = flat_map (port_change_rows a o b p) all_trees
