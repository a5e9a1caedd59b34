-- The rows of what a change does: from one network to another.
use Rattle.std.specs.Prelude.{◌≡◌, List, [], ◌∷◌, ◌++◌, length}
use Rattle.mst_kinds.specs.declared.change_line.ChangeLine.TheVariants as change_line
use Rattle.mst_kinds.specs.declared.kind.Kind.TheVariants as kind
use Rattle.mst_tables.specs.Tables.{Net}
use Rattle.mst_vlan.specs.forest.Outcome.{Outcome}
use Rattle.mst_rows.specs.Cells.{number}
use Rattle.mst_rows.specs.Rows.{Row, row_of}
use Rattle.mst_diff.specs.declared.diff.Differing.{Differing}
use Rattle.mst_diff.specs.Regions.{region_changes}
use Rattle.mst_diff.specs.Roots.{root_changes}
use Rattle.mst_changes.specs.PortChanges.{counted}
use Rattle.mst_diff.specs.Ports.{port_rows}
use Rattle.mst_diff.specs.Reach.{AreReachRows}

-- `diff regions R roots T ports P vlans V`
abbrev pub diff_row : Differing → Row
diff_row d = row_of (kind.Change change_line.Counts) (number d.regions ∷ number d.roots ∷ number d.ports ∷ number d.vlans ∷ [])

-- these are the rows of regions, of roots, of ports and of VIDs, and how many there are
pub record AreDiffRowsOf (a : Net) (o : Outcome) (b : Net) (p : Outcome) (d : Differing) (rows : List Row) : Type 0 where
  pub reach : List Row
  pub is_reach : AreReachRows a o b p reach d.vlans
  pub regions : d.regions ≡ length (region_changes a b)
  pub roots : d.roots ≡ length (root_changes a o b p)
  pub ports : d.ports ≡ counted (port_rows a o b p)
  pub is : rows ≡ region_changes a b ++ root_changes a o b p ++ port_rows a o b p ++ reach ++ diff_row d ∷ []
