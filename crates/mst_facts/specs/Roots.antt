-- The roots that bridges name.
use Rattle.std.specs.Prelude.{ℕ, ◌==◌, List, Option, None, if◌then◌else◌}
use Rattle.std.specs.List.{find}
use Rattle.std.specs.Option.{option_map, option_and_then}
use Rattle.std.specs.FinMap as fin
use Rattle.mst_tables.specs.Tables.{Net}
use Rattle.mst_tables.specs.ByTree.{by_tree}
use Rattle.mst_forest.specs.InUse.{id_in}
use Rattle.mst_forest.specs.Msti.{has_msti}
use Rattle.mst_forest.specs.Outcome.{Outcome}

-- the identifier of a bridge's root in the CIST, and of its regional root in an MSTI, where it is there, has the tree
-- and has a vector. One that is off has none
abbrev pub root_of : Net → Outcome → ℕ → List ℕ → Option ℕ
root_of net o tree bridge =
    if tree == 0
    then (if fin.contains_key net.bridges bridge then option_map (λ v. v.root) (o.cist.vector bridge) else None)
    else (if has_msti net tree bridge then option_map (λ v. v.regional) ((o.msti tree).vector bridge) else None)

-- the name of the bridge that has an identifier in a tree
abbrev pub named_by : Net → ℕ → ℕ → Option (List ℕ)
named_by net tree id = option_map (λ e. e.0) (find (λ e. id_in (by_tree net) tree e.0 e.1 == id) (fin.entries net.bridges))

-- the name of a bridge's root
abbrev pub root_name : Net → Outcome → ℕ → List ℕ → Option (List ℕ)
root_name net o tree bridge = option_and_then (named_by net tree) (root_of net o tree bridge)
