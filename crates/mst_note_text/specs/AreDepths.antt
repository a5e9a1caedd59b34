-- How deep the bridges of a network lie in its trees, and below which bridges.
use Rattle.std.specs.Prelude.{ℕ, List}
use Rattle.mst_ids.specs.declared.name.PortName.{PortName}
use Rattle.mst_roles.specs.forest.nested.Trees.{Trees, HasTree}
use Rattle.mst_note_text.specs.Chains.{InternalChain, ExternalChain}
use Rattle.mst_note_text.specs.Depths.{ParentWithin, ParentBetween}

-- of a bridge in a tree: the steps within its region, and the regional root to which they go. In the CIST: the
-- steps between regions, and the root to which they go
pub record TreeDepths : Type 0 where
  pub internal : ℕ → List ℕ → ℕ
  pub regional_root : ℕ → List ℕ → List ℕ
  pub external : List ℕ → ℕ
  pub root : List ℕ → List ℕ

-- they are those of the chains of parents, for each bridge that is on and has the tree
pub record AreDepths (f : Trees (List ℕ) (List ℕ) PortName) (d : TreeDepths) : Type 0 where
  pub internal : (tree : ℕ) (name : List ℕ) → HasTree f tree name → InternalChain (ParentWithin f tree) (d.regional_root tree name) name (d.internal tree name)
  pub external : (name : List ℕ) → HasTree f 0 name → ExternalChain (ParentWithin f 0) (ParentBetween f) (d.root name) name (d.external name)
