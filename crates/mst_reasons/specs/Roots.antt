-- The bridges whose root in a tree is asked of, and which of them comes next.
use Rattle.std.specs.Prelude.{◌≢◌, ℕ, ◌≤◌, ◌==◌, ◌&&◌, ◌||◌, Bool, false, List, is_some, filter}
use Rattle.std.specs.List.{Contains}
use Rattle.std.specs.Option.{option_map_or}
use Rattle.std.specs.FinMap as fin
use Rattle.mst_tables.specs.ByTree.{by_tree}
use Rattle.mst_tables.specs.Tables.{Net}
use Rattle.mst_roles.specs.forest.config.Regions.{same_region}
use Rattle.mst_view.specs.Aggregation.{same_name}
use Rattle.mst_roles.specs.forest.InUse.{id_in}
use Rattle.mst_roles.specs.forest.Outcome.{Outcome}
use Rattle.mst_sweep.specs.facts.Roots.{root_of, root_name}

-- a bridge has a root in the tree, and in a tree other than 0 it is of B's region. One that is off or hasn't the tree has no root
abbrev pub is_concerned : Net → Outcome → ℕ → List ℕ → List ℕ → Bool
is_concerned net o tree b bridge = is_some (root_of net o tree bridge) && (tree == 0 || same_region net b bridge)

-- these bridges, by name
abbrev pub concerned : Net → Outcome → ℕ → List ℕ → List (List ℕ)
concerned net o tree b = filter (is_concerned net o tree b) (fin.keys net.bridges)

-- this bridge is the root of that one
abbrev pub is_root_of : Net → Outcome → ℕ → List ℕ → List ℕ → Bool
is_root_of net o tree root bridge = option_map_or (same_name root) (root_name net o tree bridge) false

-- a bridge's identifier in a tree
abbrev pub identifier : Net → ℕ → List ℕ → ℕ
identifier net tree name = option_map_or (id_in (by_tree net) tree name) (fin.get net.bridges name) 0

-- C comes next after B: it is one of these bridges and not B, and no other of them but B has a lesser identifier
pub record IsNextRoot (net : Net) (o : Outcome) (tree : ℕ) (b c : List ℕ) : Type 0 where
  pub among : Contains (concerned net o tree b) c
  pub other : c ≢ b
  pub least : (bridge : List ℕ) → Contains (concerned net o tree b) bridge → bridge ≢ b → identifier net tree c ≤ identifier net tree bridge
