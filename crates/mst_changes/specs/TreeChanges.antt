-- The rows of changes that are of one tree.
use Rattle.std.specs.Prelude.{ℕ, List}
use Rattle.mst_ids.specs.Names.{name_cmp, port_cmp}
use Rattle.mst_rows.specs.Rows.{Row}
use Rattle.mst_tables.specs.Tables.{Net}
use Rattle.mst_roles.specs.forest.Outcome.{Outcome}
use Rattle.mst_changes.specs.declared.subject.Subject.{Subject}
use Rattle.mst_changes.specs.Subjects.{names_of_either, subjects_in}
use Rattle.mst_view.specs.View.{bridge_names, port_names}
use Rattle.mst_changes.specs.Values.{value_at}
use Rattle.mst_changes.specs.ChangesText.{rows_at}

-- the subjects of either network in a tree
abbrev pub either_in : Net → Net → ℕ → List Subject
either_in a b = subjects_in (names_of_either name_cmp (bridge_names a) (bridge_names b)) (names_of_either port_cmp (port_names a) (port_names b))

-- and the rows of those that differ
abbrev pub tree_changes : Net → Outcome → Net → Outcome → ℕ → List Row
tree_changes a o b p tree = rows_at (value_at a o) (value_at b p) (either_in a b tree)
