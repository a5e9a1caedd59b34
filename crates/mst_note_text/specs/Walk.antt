-- How far the depths of bridges are found.
use Rattle.std.specs.Prelude.{◌≡◌, ◌⊎◌, ℕ, ◌+◌, ◌<◌, ◌≤◌, List, [], ◌∷◌, length, Option, Bool, true, false, slice_index, slice_index_or}
use Rattle.mst_note_text.specs.Places.{IsParent, HasDepths, depths_at}
use Rattle.mst_note_text.specs.declared.parent.Parent.{Parent}
use Rattle.mst_note_text.specs.declared.parent.Depths.{Depths}

-- the bridge at place n was come to
abbrev pub IsSeen : List Bool → ℕ → Type 0
IsSeen seen n = slice_index_or seen n false ≡ true

-- how many were not
abbrev pub unseen : List Bool → ℕ
unseen [] = 0
unseen (true ∷ seen) = unseen seen
unseen (false ∷ seen) = unseen seen + 1

-- place n stands on the path
pub record IsOn (path : List ℕ) (n : ℕ) : Type 0 where
  pub index : ℕ
  pub in_path : index < length path
  pub is_at : slice_index path index ≡ n

-- the bridge at place n has its depths, and as many more steps as bridges are left still make no more than
-- there are bridges
pub record IsFound (parents : List (Option Parent)) (found : List Depths) (left n : ℕ) : Type 0 where
  pub depths : HasDepths parents n (depths_at found n)
  pub internal : (depths_at found n).internal + left < length parents
  pub external : (depths_at found n).external + left < length parents

-- the next on the path after place index
pub record IsNext (path : List ℕ) (index n : ℕ) : Type 0 where
  pub in_path : index + 1 < length path
  pub is_at : slice_index path (index + 1) ≡ n

-- each bridge that was come to has its depths or is on the path. Left are those that were not come to, and
-- the path. The parent of each on the path has its depths or comes next
pub record IsWalk (parents : List (Option Parent)) (seen : List Bool) (path : List ℕ) (found : List Depths) : Type 0 where
  pub each_seen : length seen ≡ length parents
  pub each_found : length found ≡ length parents
  pub room : unseen seen + length path ≤ length parents
  pub in_list : (index : ℕ) → index < length path → slice_index path index < length parents
  pub reached : (n : ℕ) → IsSeen seen n → IsFound parents found (unseen seen + length path) n ⊎ IsOn path n
  pub parent : (index : ℕ) (p : Parent) → index < length path → IsParent parents (slice_index path index) p → IsFound parents found (unseen seen + length path) p.place ⊎ IsNext path index p.place
