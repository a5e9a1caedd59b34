-- The rows of a tree, by name.
use Rattle.std.specs.Prelude.{ℕ, ◌==◌, ◌||◌, Bool, List, [], ◌∷◌, ◌++◌, filter}
use Rattle.std.specs.List.{flat_map}
use Rattle.std.specs.Option.{option_map_or}
use Rattle.std.specs.FinMap as fin
use Rattle.mst_tables.specs.Tables.{Net, BridgeRow}
use Rattle.mst_tables.specs.ByTree.{by_tree}
use Rattle.mst_view.specs.Aggregation.{same_name}
use Rattle.mst_view.specs.View.{LogicalPort, view_ports}
use Rattle.mst_vlan.specs.forest.Msti.{has_tree}
use Rattle.mst_vlan.specs.forest.Outcome.{Outcome}
use Rattle.mst_vlan.specs.roles.Roles.{role_in}
use Rattle.mst_rows.specs.Rows.{Row}
use Rattle.mst_text.specs.TreeRows.{heading, bridge_rows, port_row}

-- the logical ports of a bridge, by number
abbrev pub ports_of : Net → List ℕ → List LogicalPort
ports_of net bridge = filter (λ p. same_name p.name.bridge bridge) (view_ports net)

-- the row of a port, with its role, if its bridge has the tree
abbrev pub rows_of_port : Net → Outcome → ℕ → LogicalPort → List Row
rows_of_port net o tree p = option_map_or (λ role. port_row (by_tree net) tree p role ∷ []) (role_in net o tree p) []

-- the rows of a bridge: its own, and one for each of its logical ports
abbrev pub own_rows : Net → Outcome → ℕ → List ℕ × BridgeRow → List Row
own_rows net o tree e = bridge_rows net tree e.0 e.1 (o.cist.vector e.0) ((o.msti tree).vector e.0)

abbrev pub rows_of_bridge : Net → Outcome → ℕ → List ℕ × BridgeRow → List Row
rows_of_bridge net o tree e = own_rows net o tree e ++ flat_map (rows_of_port net o tree) (ports_of net e.0)

-- the heading, and the rows of each bridge that has the tree, in byte order of names
abbrev pub tree_rows : Net → Outcome → ℕ → List Row
tree_rows net o tree = heading tree ∷ flat_map (rows_of_bridge net o tree) (filter (λ e. has_tree net tree e.0) (fin.entries net.bridges))
