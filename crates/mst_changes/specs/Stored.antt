-- The form in which entries are kept: the names of bridges and logical ports once, and beside them what they have in each tree.
use Rattle.std.specs.Prelude.{ℕ, List, ◌++◌, Option, map, filter_map}
use Rattle.std.specs.List.{zip, flat_map}
use Rattle.std.specs.Option.{option_map}
use Rattle.mst_ids.specs.declared.name.PortName.{PortName}
use Rattle.mst_view.specs.Viewed.{Viewed}
use Rattle.mst_roles.specs.declared.kind.Role.{Role}
use Rattle.mst_changes.specs.declared.subject.Item.TheVariants.{Bridge, Port}
use Rattle.mst_changes.specs.declared.value.VectorOrRole.{VectorOrRole}
use Rattle.mst_changes.specs.declared.value.VectorOrRole.TheVariants.{HasRole}
use Rattle.mst_changes.specs.declared.subject.Entry.{Entry}
use Rattle.mst_changes.specs.declared.kept.TreeEntries.{TreeEntries}
use Rattle.mst_changes.specs.declared.entries.Entries.{Entries}

-- the entry of a name with what it has in a tree, if it has something
abbrev pub bridge_entry : ℕ → List ℕ × Option VectorOrRole → Option Entry
bridge_entry tree kept = option_map (λ value. record { tree = tree; item = Bridge kept.0; value = value }) kept.1

abbrev pub port_entry : ℕ → PortName × Option Role → Option Entry
port_entry tree kept = option_map (λ role. record { tree = tree; item = Port kept.0; value = HasRole role }) kept.1

-- the entries of a tree, of bridges and logical ports of these names
abbrev pub kept_in : List (List ℕ) → List PortName → TreeEntries → List Entry
kept_in bridges ports kept = filter_map (bridge_entry kept.tree) (zip bridges kept.vectors.items) ++ filter_map (port_entry kept.tree) (zip ports kept.roles.items)

-- of trees one after another, of the bridges and logical ports of a view
abbrev pub kept_of : Viewed → List TreeEntries → List Entry
kept_of v trees = flat_map (kept_in (map (λ b. b.name) v.bridges) (map (λ p. p.name) v.ports)) trees

-- all entries, tree after tree
abbrev pub kept_entries : Entries → List Entry
kept_entries entries = flat_map (kept_in entries.bridges.items entries.ports.items) entries.trees.items
