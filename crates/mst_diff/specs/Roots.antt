-- The rows of trees whose root, or one of whose regional roots, is another one.
use Rattle.std.specs.Prelude.{ℕ, ◌&&◌, Bool, List, [], ◌∷◌, Option, filter_map, if◌then◌else◌}
use Rattle.std.specs.List.{flat_map}
use Rattle.std.specs.Option.{option_map, option_and_then}
use Rattle.mst_kinds.specs.declared.change_line.ChangeLine.TheVariants as change_line
use Rattle.mst_kinds.specs.declared.kind.Kind.TheVariants as kind
use Rattle.mst_tables.specs.Tables.{Net}
use Rattle.mst_view.specs.Aggregation.{same_name}
use Rattle.mst_vlan.specs.forest.Outcome.{Outcome}
use Rattle.mst_vlan.specs.forest.AllTrees.{all_trees}
use Rattle.mst_view.specs.View.{bridge_names}
use Rattle.mst_rows.specs.Cells.{number, word}
use Rattle.mst_rows.specs.Rows.{Row, row_of}
use Rattle.mst_diff.specs.declared.roots.RootPair.{RootPair}
use Rattle.mst_graph.specs.Lists.{each_once}
use Rattle.mst_facts.specs.Roots.{root_name}

-- the names before and after, where there are both
abbrev pub paired : Option (List ℕ) → Option (List ℕ) → Option RootPair
paired old new = option_and_then (λ old. option_map (λ new. record { old = old; new = new }) new) old

-- of a bridge that has a vector in both
abbrev pub root_pair : Net → Outcome → Net → Outcome → ℕ → List ℕ → Option RootPair
root_pair a o b p tree bridge = paired (root_name a o tree bridge) (root_name b p tree bridge)

abbrev pub same_pair : RootPair → RootPair → Bool
same_pair x y = same_name x.old y.old && same_name x.new y.new

-- `root T A -> B`, where they differ
abbrev pub root_row : ℕ → RootPair → Row
root_row tree pair = row_of (kind.Change change_line.Root) (number tree ∷ word pair.old ∷ word pair.new ∷ [])

abbrev pub root_unless : ℕ → RootPair → List Row
root_unless tree pair = if same_name pair.old pair.new then [] else root_row tree pair ∷ []

-- the rows of a tree: a pair once, by the first of the bridges that have it
abbrev pub tree_roots : Net → Outcome → Net → Outcome → ℕ → List Row
tree_roots a o b p tree = flat_map (root_unless tree) (each_once same_pair (filter_map (root_pair a o b p tree) (bridge_names a)))

-- of all trees, rising
abbrev pub root_changes : Net → Outcome → Net → Outcome → List Row
root_changes a o b p = flat_map (tree_roots a o b p) all_trees
