-- The entries that are kept of a network's outcome.
use Rattle.std.specs.Prelude.{◌≡◌, ℕ, List, Option, filter_map}
use Rattle.std.specs.Option.{option_map}
use Rattle.mst_tables.specs.Tables.{Net}
use Rattle.mst_roles.specs.forest.Outcome.{Outcome}
use Rattle.mst_changes.specs.declared.subject.Subject.{Subject}
use Rattle.mst_changes.specs.declared.value.VectorOrRole.{VectorOrRole}
use Rattle.mst_changes.specs.declared.subject.Entry.{Entry}
use Rattle.mst_changes.specs.declared.entries.Entries.{Entries}
use Rattle.mst_changes.specs.Subjects.{subjects_of, subjects_in}
use Rattle.mst_view.specs.View.{bridge_names, port_names}
use Rattle.mst_changes.specs.Values.{value_at}
use Rattle.mst_changes.specs.Stored.{kept_entries}

-- what there is of these subjects, in their order
abbrev pub entry_at : (Subject → Option VectorOrRole) → Subject → Option Entry
entry_at at subject = option_map (λ value. record { tree = subject.tree; item = subject.item; value = value }) (at subject)

abbrev pub entries_at : (Subject → Option VectorOrRole) → List Subject → List Entry
entries_at at = filter_map (entry_at at)

-- the entries of a network with this outcome: by trees, rising, the vector of each bridge that has one, in
-- byte order, and the role of each logical port whose bridge has the tree, by bridge and number
abbrev pub entries_of : Net → Outcome → List Entry
entries_of net o = entries_at (value_at net o) (subjects_of net)

-- those of one tree
abbrev pub entries_in : Net → Outcome → ℕ → List Entry
entries_in net o tree = entries_at (value_at net o) (subjects_in (bridge_names net) (port_names net) tree)

abbrev pub AreEntries : Net → Outcome → Entries → Type 0
AreEntries net o entries = kept_entries entries ≡ entries_of net o
