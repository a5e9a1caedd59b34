-- The rows of changes that are of ports, tree by tree.
use Rattle.std.specs.Prelude.{ℕ, List, length, map, min}
use Rattle.mst_ids.specs.Names.{port_cmp}
use Rattle.mst_rows.specs.Rows.{Row}
use Rattle.mst_tables.specs.Tables.{Net}
use Rattle.mst_roles.specs.forest.Outcome.{Outcome}
use Rattle.mst_changes.specs.Subjects.{names_of_either, port_in}
use Rattle.mst_view.specs.View.{port_names}
use Rattle.mst_changes.specs.Values.{value_at}
use Rattle.mst_changes.specs.ChangesText.{rows_at}

-- the rows of the logical ports of either network in one tree
abbrev pub port_change_rows : Net → Outcome → Net → Outcome → ℕ → List Row
port_change_rows a o b p tree = rows_at (value_at a o) (value_at b p) (map (port_in tree) (names_of_either port_cmp (port_names a) (port_names b)))

-- how many rows there are, to the greatest number of 64 bits
abbrev pub counted : List Row → ℕ
counted rows = min (length rows) 18446744073709551615
