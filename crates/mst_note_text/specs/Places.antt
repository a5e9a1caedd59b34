-- Parents by places in a list, and the depths that follow.
use Rattle.std.specs.Prelude.{◌≡◌, ℕ, ◌+◌, ◌<◌, List, length, Option, Some, None, Bool, true, false, slice_index_or}
use Rattle.mst_note_text.specs.Chains.{InternalChain, ExternalChain}
use Rattle.mst_note_text.specs.declared.parent.Parent.{Parent}
use Rattle.mst_note_text.specs.declared.parent.Depths.{Depths}

-- the bridge at place n has this parent
abbrev pub IsParent : List (Option Parent) → ℕ → Parent → Type 0
IsParent parents n p = slice_index_or parents n None ≡ Some p

-- its parent is at place k: in its own region, or in another
abbrev pub WithinAt : List (Option Parent) → ℕ → ℕ → Type 0
WithinAt parents n k = IsParent parents n (record { place = k; is_between = false })

abbrev pub BetweenAt : List (Option Parent) → ℕ → ℕ → Type 0
BetweenAt parents n k = IsParent parents n (record { place = k; is_between = true })

-- each parent is in the list, and no chain of parents is endless: some number falls along it
pub record IsForest (parents : List (Option Parent)) : Type 0 where
  pub height : ℕ → ℕ
  pub in_list : (n : ℕ) (p : Parent) → IsParent parents n p → p.place < length parents
  pub falls : (n : ℕ) (p : Parent) → IsParent parents n p → height p.place < height n

-- no depth, that of a bridge with no parent
abbrev pub no_depth : Depths
no_depth = record { internal = 0; external = 0 }

-- the depths of a bridge whose parent has these
abbrev pub deeper_of : Bool → Depths → Depths
deeper_of false d = record { internal = d.internal + 1; external = d.external }
deeper_of true d = record { internal = 0; external = d.external + 1 }

-- the depths at place n of a list
abbrev pub depths_at : List Depths → ℕ → Depths
depths_at found n = slice_index_or found n no_depth

-- the depths of the bridge at place n, with the places at which its chains end
pub record HasDepths (parents : List (Option Parent)) (n : ℕ) (d : Depths) : Type 0 where
  pub regional_root : ℕ
  pub internal : InternalChain (WithinAt parents) regional_root n d.internal
  pub root : ℕ
  pub external : ExternalChain (WithinAt parents) (BetweenAt parents) root n d.external
