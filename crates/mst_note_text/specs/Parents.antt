-- The parents of bridges by places, as ports give them.
use Rattle.std.specs.Prelude.{◌≡◌, ℕ, List, length, Option, Some}
use Rattle.std.specs.List.{AllByRecursion, Contains}
use Rattle.mst_note_text.specs.Places.{IsParent}
use Rattle.mst_note_text.specs.declared.parent.Parent.{Parent}

-- each parent is one that some of the ports gives, and where one of the first of them gives a parent there is one
pub record AreGiven {A : Type 0} (given : A → Option (ℕ × Parent)) (ports first : List A) (count : ℕ) (parents : List (Option Parent)) : Type 0 where
  pub long : length parents ≡ count
  pub from_port : (place : ℕ) (p : Parent) → IsParent parents place p → (q : A) × Contains ports q × (given q ≡ Some (place, p))
  pub each_port : AllByRecursion (λ q. (place : ℕ) (p : Parent) → given q ≡ Some (place, p) → (other : Parent) × IsParent parents place other) first
