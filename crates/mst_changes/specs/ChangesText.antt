-- The rows of what changes from one network to another.
use Rattle.std.specs.Prelude.{ℕ, List, [], ◌∷◌, Option, Some, None, if◌then◌else◌}
use Rattle.std.specs.List.{flat_map}
use Rattle.mst_ids.specs.Texts.{bridge_id_text, port_id_text}
use Rattle.mst_ids.specs.declared.name.PortName.{PortName}
use Rattle.mst_kinds.specs.declared.change_line.ChangeLine.TheVariants as change_line
use Rattle.mst_kinds.specs.declared.kind.Kind.TheVariants as kind
use Rattle.mst_rows.specs.Cells.{Cell, absent, word, number, object}
use Rattle.mst_rows.specs.Objects.{cist_vector, msti_vector}
use Rattle.mst_rows.specs.Rows.{Row, row_of}
use Rattle.mst_tables.specs.Tables.{Net}
use Rattle.mst_roles.specs.forest.Outcome.{Outcome}
use Rattle.mst_roles.specs.Names.{role_text}
use Rattle.mst_changes.specs.declared.subject.Item.{Item}
use Rattle.mst_changes.specs.declared.subject.Item.TheVariants.{Bridge, Port}
use Rattle.mst_changes.specs.declared.subject.Subject.{Subject}
use Rattle.mst_changes.specs.declared.value.VectorOrRole.{VectorOrRole}
use Rattle.mst_changes.specs.declared.value.VectorOrRole.TheVariants.{InCist, InMsti, HasRole}
use Rattle.mst_changes.specs.Subjects.{subjects_of_either}
use Rattle.mst_changes.specs.Values.{value_at, same_side}

-- the root priority vector of a bridge, or nothing: a bridge has no role
abbrev pub vector_cell : Option VectorOrRole → Cell
vector_cell (Some (InCist v)) =
    object (cist_vector (bridge_id_text v.root) v.external (bridge_id_text v.regional) v.internal (bridge_id_text v.designated) (port_id_text v.port) (port_id_text v.receiver))
vector_cell (Some (InMsti v)) = object (msti_vector (bridge_id_text v.regional) v.internal (bridge_id_text v.designated) (port_id_text v.port) (port_id_text v.receiver))
vector_cell (Some (HasRole role)) = absent
vector_cell None = absent

-- the role of a port, or nothing: a port has no root priority vector
abbrev pub role_cell : Option VectorOrRole → Cell
role_cell (Some (HasRole role)) = word (role_text role)
role_cell (Some (InCist v)) = absent
role_cell (Some (InMsti v)) = absent
role_cell None = absent

-- `bridge T B OLD -> NEW`
abbrev pub bridge_row : ℕ → List ℕ → Cell → Cell → Row
bridge_row tree name old new = row_of (kind.Change change_line.Bridge) (number tree ∷ word name ∷ old ∷ new ∷ [])

-- `port T B P OLD -> NEW`
abbrev pub port_row : ℕ → PortName → Cell → Cell → Row
port_row tree name old new = row_of (kind.Change change_line.Port) (number tree ∷ word name.bridge ∷ number name.number ∷ old ∷ new ∷ [])

-- the row of a subject
abbrev pub item_row : ℕ → Item → Option VectorOrRole → Option VectorOrRole → Row
item_row tree (Bridge name) old new = bridge_row tree name (vector_cell old) (vector_cell new)
item_row tree (Port name) old new = port_row tree name (role_cell old) (role_cell new)

-- where it changes
abbrev pub change_rows : Subject → Option VectorOrRole → Option VectorOrRole → List Row
change_rows subject old new = if same_side old new then [] else item_row subject.tree subject.item old new ∷ []

-- the rows of subjects, by what each side has of them
abbrev pub rows_at : (Subject → Option VectorOrRole) → (Subject → Option VectorOrRole) → List Subject → List Row
rows_at x y subjects = flat_map (λ subject. change_rows subject (x subject) (y subject)) subjects

-- the rows of all subjects of either network where their outcomes differ: in each tree those of bridges, and then
-- those of logical ports
abbrev pub all_changes : Net → Outcome → Net → Outcome → List Row
all_changes a o b p = rows_at (value_at a o) (value_at b p) (subjects_of_either a b)
