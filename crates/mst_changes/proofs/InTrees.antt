-- The rows of changes are those of the trees, one after another.
use Rattle.std.proofs.Common.{◌≡◌}
use Rattle.std.specs.List.{flat_map}
use Rattle.mst_ids.specs.Names.{name_cmp, port_cmp}
use Rattle.mst_tables.specs.Tables.{Net}
use Rattle.mst_roles.specs.forest.Outcome.{Outcome}
use Rattle.mst_changes.specs.declared.subject.Subject.{Subject}
use Rattle.mst_roles.specs.forest.AllTrees.{all_trees}
use Rattle.mst_changes.specs.Subjects.{subjects_in, names_of_either}
use Rattle.mst_view.specs.View.{bridge_names, port_names}
use Rattle.mst_changes.specs.Values.{value_at}
use Rattle.mst_changes.specs.ChangesText.{change_rows, all_changes}
use Rattle.mst_changes.specs.TreeChanges.{tree_changes}
use Rattle.mst_roles.proofs.forest_lemmas.Pieces.{flat_map-flat_map}

pub tree_by_tree : (a b : Net) (o p : Outcome) → all_changes a o b p ≡ flat_map (tree_changes a o b p) all_trees
tree_by_tree a b o p =
    flat_map-flat_map (λ (subject : Subject). change_rows subject (value_at a o subject) (value_at b p subject))
    (subjects_in (names_of_either name_cmp (bridge_names a) (bridge_names b)) (names_of_either port_cmp (port_names a) (port_names b))) all_trees
