-- The row of the ports of a tree that block.
use Rattle.std.specs.Prelude.{ℕ, ◌&&◌, Bool, false, not, List, [], ◌∷◌, Option, Some, None, map, filter}
use Rattle.mst_ids.specs.declared.name.PortName.{PortName}
use Rattle.mst_kinds.specs.declared.kind.Kind.TheVariants as kind
use Rattle.mst_kinds.specs.declared.summary_line.SummaryLine.TheVariants as summary_line
use Rattle.mst_rows.specs.Cells.{number, ports}
use Rattle.mst_rows.specs.Rows.{Row, row_of}
use Rattle.mst_tables.specs.Tables.{Net}
use Rattle.mst_view.specs.View.{LogicalPort, view_ports}
use Rattle.mst_vlan.specs.forest.Outcome.{Outcome}
use Rattle.mst_vlan.specs.roles.Roles.{role_of, forwards}
use Rattle.mst_vlan.specs.roles.declared.kind.Role.{Role}

-- a port that has a role in the tree, and doesn't forward. A port whose bridge hasn't the tree has none there
abbrev pub stops : Option Role → Bool
stops None = false
stops (Some role) = not (forwards role)

-- an enabled port of the tree that doesn't forward
abbrev pub is_blocked : Net → Outcome → ℕ → LogicalPort → Bool
is_blocked net o tree p = p.is_enabled && stops (role_of net o tree p.name)

-- their names, by bridge and number
abbrev pub blocked : Net → Outcome → ℕ → List PortName
blocked net o tree = map (λ p. p.name) (filter (is_blocked net o tree) (view_ports net))

-- `blocked T PORTS`
abbrev pub blocked_row : ℕ → List PortName → Row
blocked_row tree ps = row_of (kind.Summary summary_line.Blocked) (number tree ∷ ports ps ∷ [])
