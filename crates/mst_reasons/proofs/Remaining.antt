-- Which bridges aren't meant to leave a VID: all where nothing is meant to, and the same for VIDs of the same sets.
use Rattle.std.proofs.Common.{◌≡◌, ℕ, ◌&&◌, ◌||◌, not, Bool, true, List, [], ◌∷◌, refl, ap}
use Rattle.std.specs.List.{AllByRecursion, filter}
use Rattle.mst_ids.specs.Vids.{has}
use Rattle.mst_policy.specs.Items as policy
use Rattle.mst_policy.specs.Leaving.{Leaving, leaves, sets_of}
use Rattle.mst_policy.specs.declared.item.NameItem.{NameItem}
use Rattle.mst_tables.specs.Tables.{Net}
use Rattle.mst_reasons.specs.sweep.declared.failure.Failure.{Failure}
use Rattle.mst_reasons.specs.Named.{named, remaining}

all_pass : {A : Type 0} (xs : List A) → filter (λ (x : A). true) xs ≡ xs
all_pass [] = refl
all_pass (x ∷ xs) = ap (λ ys. x ∷ ys) (all_pass xs)

-- nothing is meant to leave
pub all_remain : (vid : ℕ) (net : Net) (lost : List Failure) (names : List NameItem) → remaining [] vid net lost names ≡ named net lost names
all_remain vid net lost names = all_pass (named net lost names)

-- VIDs that are in the same sets
abbrev pub InSame : Leaving → ℕ → ℕ → Type 0
InSame leaving u v = AllByRecursion (λ set. has set u ≡ has set v) (sets_of leaving)

pub same_leaves : (leaving : Leaving) (u v : ℕ) → InSame leaving u v → (bridge : List ℕ) → leaves leaving u bridge ≡ leaves leaving v bridge
same_leaves [] u v same bridge = refl
same_leaves (l ∷ ls) u v same bridge = λ i. (same.0 i && policy.has l.1 bridge) || same_leaves ls u v same.1 bridge i

pub same_remaining : (leaving : Leaving) (u v : ℕ) → InSame leaving u v → (net : Net) (lost : List Failure) (names : List NameItem) → remaining leaving u net lost names ≡ remaining leaving v net lost names
same_remaining leaving u v same net lost names = λ i. filter (λ bridge. not (same_leaves leaving u v same bridge i)) (named net lost names)
