-- Subjects: the bridges and the logical ports in each tree.
use Rattle.std.specs.Prelude.{ℕ, List, map, ◌++◌}
use Rattle.std.specs.List.{flat_map}
use Rattle.std.specs.Ordering.{nat_cmp, ordering_then}
use Rattle.std.specs.declared.cmp.Ordering.{Ordering}
use Rattle.std.specs.declared.cmp.Ordering.TheVariants.{Less, Greater}
use Rattle.std.specs.FinMap as fin
use Rattle.mst_ids.specs.Names.{name_cmp, port_cmp}
use Rattle.mst_ids.specs.declared.name.PortName.{PortName}
use Rattle.mst_tables.specs.Tables.{Net}
use Rattle.mst_changes.specs.declared.subject.Item.{Item}
use Rattle.mst_changes.specs.declared.subject.Item.TheVariants.{Bridge, Port}
use Rattle.mst_changes.specs.declared.subject.Subject.{Subject}
use Rattle.mst_changes.specs.declared.subject.Entry.{Entry}
use Rattle.mst_roles.specs.forest.AllTrees.{all_trees}
use Rattle.mst_view.specs.View.{bridge_names, port_names}

abbrev pub bridge_in : ℕ → List ℕ → Subject
bridge_in tree name = record { tree = tree; item = Bridge name }

abbrev pub port_in : ℕ → PortName → Subject
port_in tree name = record { tree = tree; item = Port name }

-- the subject of an entry
abbrev pub subject_of : Entry → Subject
subject_of r = record { tree = r.tree; item = r.item }

-- in one tree first these bridges and then these ports
abbrev pub subjects_in : List (List ℕ) → List PortName → ℕ → List Subject
subjects_in bridges ports tree = map (bridge_in tree) bridges ++ map (port_in tree) ports

-- in each tree, rising
abbrev pub subjects : List (List ℕ) → List PortName → List Subject
subjects bridges ports = flat_map (subjects_in bridges ports) all_trees

-- the names that stand in either list, each once, in this order
abbrev pub names_of_either : {K : Type 0} → (K → K → Ordering) → List K → List K → List K
names_of_either R xs ys = fin.keys (fin.from_entries {R = R} (map (λ k. (k, k)) (xs ++ ys)))

-- the subjects of a network, and those of either of two
abbrev pub subjects_of : Net → List Subject
subjects_of net = subjects (bridge_names net) (port_names net)

abbrev pub subjects_of_either : Net → Net → List Subject
subjects_of_either a b = subjects (names_of_either name_cmp (bridge_names a) (bridge_names b)) (names_of_either port_cmp (port_names a) (port_names b))

-- the order in which they stand: by trees, bridges before ports, and by names
abbrev pub item_cmp : Item → Item → Ordering
item_cmp (Bridge a) (Bridge b) = name_cmp a b
item_cmp (Bridge a) (Port q) = Less
item_cmp (Port p) (Bridge b) = Greater
item_cmp (Port p) (Port q) = port_cmp p q

abbrev pub subject_cmp : Subject → Subject → Ordering
subject_cmp a b = ordering_then (nat_cmp a.tree b.tree) (item_cmp a.item b.item)
