-- The parents of a tree's bridges, listed by places.
use Rattle.std.specs.Prelude.{◌≡◌, ℕ, ◌<◌, List, length, Option, true, false}
use Rattle.mst_roles.specs.forest.nested.Trees.{Trees, HasTree, SameRegion}
use Rattle.mst_note_text.specs.Depths.{ParentIn}
use Rattle.mst_note_text.specs.Places.{IsParent}
use Rattle.mst_note_text.specs.declared.parent.Parent.{Parent}

-- the list has the parents in tree i of the bridges at its places, each with whether it is of another region
pub record IsListed {N L K : Type 0} (f : Trees N L K) (i : ℕ) (bridge : ℕ → N) (parents : List (Option Parent)) : Type 0 where
  pub has_tree : (n : ℕ) → n < length parents → HasTree f i (bridge n)
  pub in_list : (n : ℕ) (p : Parent) → IsParent parents n p → p.place < length parents
  pub is_parent : (n : ℕ) (p : Parent) → IsParent parents n p → ParentIn f i (bridge n) (bridge p.place)
  pub within : (n : ℕ) (p : Parent) → IsParent parents n p → p.is_between ≡ false → SameRegion f (bridge n) (bridge p.place)
  pub between : (n : ℕ) (p : Parent) → IsParent parents n p → p.is_between ≡ true → SameRegion f (bridge n) (bridge p.place) → ⊥
  pub all : (n : ℕ) (k : N) → n < length parents → ParentIn f i (bridge n) k → (p : Parent) × IsParent parents n p
