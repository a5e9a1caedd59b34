-- A tree beside the CIST that no bridge of either network has, has no rows of ports.
use Rattle.std.proofs.Common.{◌≡◌, ℕ, ◌==◌, ◌||◌, false, List, [], ◌∷◌, ◌++◌, map, Option, None, refl, ◌∙◌}
use Rattle.std.specs.List.{flat_map}
use Rattle.mst_ids.specs.Names.{port_cmp}
use Rattle.mst_ids.specs.declared.name.PortName.{PortName}
use Rattle.mst_roles.specs.forest.InUse.{is_in_use}
use Rattle.mst_roles.specs.forest.Settled.{SettledNet, outcome_of, IsSettledNet}
use Rattle.mst_roles.proofs.forest_lemmas.SettledNet.{forest_of}
use Rattle.mst_changes.specs.declared.subject.Subject.{Subject}
use Rattle.mst_changes.specs.declared.value.VectorOrRole.{VectorOrRole}
use Rattle.mst_changes.specs.Subjects.{port_in, names_of_either}
use Rattle.mst_view.specs.View.{port_names}
use Rattle.mst_changes.specs.PortChanges.{port_change_rows}
use Rattle.mst_changes.specs.Values.{value_at}
use Rattle.mst_changes.specs.ChangesText.{change_rows}
use Rattle.mst_changes.proofs.Gathered.{no_value_there}
use Rattle.mst_roles.proofs.forest_lemmas.NotInUse.{unused_by}

none_changed : (x y : Subject → Option VectorOrRole) (tree : ℕ) → ((name : PortName) → x (port_in tree name) ≡ None) → ((name : PortName) → y (port_in tree name) ≡ None) → (names : List PortName)
    → flat_map (λ subject. change_rows subject (x subject) (y subject)) (map (port_in tree) names) ≡ []
none_changed x y tree f g [] = refl
none_changed x y tree f g (q ∷ qs) =
    (λ i. change_rows (port_in tree q) (f q i) (g q i) ++ flat_map (λ subject. change_rows subject (x subject) (y subject)) (map (port_in tree) qs)) ∙ none_changed x y tree f g qs

pub no_port_changes : (s t : SettledNet) → IsSettledNet s → IsSettledNet t → (tree : ℕ)
    → (tree == 0 || is_in_use s.view tree) ≡ false → (tree == 0 || is_in_use t.view tree) ≡ false → port_change_rows s.net (outcome_of s) t.net (outcome_of t) tree ≡ []
no_port_changes s t is are tree old new =
    let x = unused_by s.view tree old in
    let y = unused_by t.view tree new in
    none_changed (value_at s.net (outcome_of s)) (value_at t.net (outcome_of t)) tree
    (no_value_there s.net s.numbers s.view s.forest is.of (forest_of s is) tree x.other x.none) (no_value_there t.net t.numbers t.view t.forest are.of (forest_of t are) tree y.other y.none)
    (names_of_either port_cmp (port_names s.net) (port_names t.net))
