-- The bridges of a tree with their parents, and how many steps to parents there are from each.
use Rattle.std.specs.Prelude.{ℕ, List, map, MatchOption}
use Rattle.std.specs.List.{AllByRecursion, Contains}
use Rattle.mst_ids.specs.declared.name.PortName.{PortName}
use Rattle.mst_graph.specs.Groups.{IsThinned}
use Rattle.mst_roles.specs.forest.nested.Trees.{Trees, HasTree}
use Rattle.mst_note_text.specs.Chains.{InternalChain}
use Rattle.mst_note_text.specs.Depths.{ParentIn}
use Rattle.mst_note_text.specs.declared.children.Child.{Child}

-- in so many steps the chain of parents goes from a bridge of the tree to one that has no parent, whatever regions it goes through
pub record HasSteps {N L K : Type 0} (f : Trees N L K) (i : ℕ) (n : N) (steps : ℕ) : Type 0 where
  pub has_tree : HasTree f i n
  pub top : N
  pub chain : InternalChain (ParentIn f i) top n steps

-- a bridge has this parent, or none
pub record IsChild (f : Trees (List ℕ) (List ℕ) PortName) (tree : ℕ) (c : Child) : Type 0 where
  pub steps : HasSteps f tree c.name c.steps
  pub parent : MatchOption c.parent ((k : List ℕ) → ParentIn f tree c.name k → ⊥) (ParentIn f tree c.name)

-- these are all bridges of the tree, in the order of their names
pub record AreChildren (f : Trees (List ℕ) (List ℕ) PortName) (tree : ℕ) (names : List (List ℕ)) (children : List Child) : Type 0 where
  pub each : AllByRecursion (IsChild f tree) children
  pub in_order : IsThinned (map (λ c. c.name) children) names
  pub all : (name : List ℕ) → HasTree f tree name → Contains (map (λ c. c.name) children) name
