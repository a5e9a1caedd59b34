-- Whether a number is marked, and what holds of the elements of a list that a loop has come by.
use Rattle.std.proofs.Common.{◌≡◌, ◌≢◌, ℕ, ◌+◌, ◌<◌, ◌≤◌, List, length, get_or, take, Bool, true, false, refl, sym, ap, subst, inl, inr, ◌⊎◌}
use Rattle.std.specs.List.{Contains, All}
use Rattle.std.proofs.lemmas.List.{take_all}
use Rattle.std.proofs.lemmas.List.Elements.{All-more, All-weaker, All-contains}
use Rattle.mst_topology.proofs.Entries.{same_or_other}
use Rattle.mst_topology.proofs.Reserved.{below_other}
use Rattle.mst_settle.proofs.Turns.{any_or_none}

entry_or_not : (e : ℕ × Bool) (n : ℕ) → (e ≡ (n, true)) ⊎ (e ≢ (n, true))
entry_or_not e n = go e.1 refl (same_or_other e.0 n)
  where
    go : (b : Bool) → e.1 ≡ b → (e.0 ≡ n) ⊎ (e.0 ≢ n) → (e ≡ (n, true)) ⊎ (e ≢ (n, true))
    go true f (inl g) = inl (λ i. (g i, f i))
    go true f (inr other) = inr (λ h. other (ap (λ (z : ℕ × Bool). z.0) h))
    go false f number = inr (λ h. let g : e.1 ≡ true = ap (λ (z : ℕ × Bool). z.1) h in cc)

pub marked_or_not : (xs : List (ℕ × Bool)) (n : ℕ) → Contains xs (n, true) ⊎ (Contains xs (n, true) → ⊥)
marked_or_not xs n = elim (any_or_none (λ (e : ℕ × Bool). e ≡ (n, true)) (λ e. entry_or_not e n) xs) [
  | inl f ↦ inl (subst (λ z. Contains xs z) f.2 f.1)
  | inr none ↦ inr (λ c. none (n, true) c refl)
]

-- what holds of the elements before place i, though it be said otherwise meanwhile, and of the one there
pub all_more : {A : Type 0} (P Q : A → Type 0) (xs : List A) (i : ℕ) (x : A) → i < length xs → x ≡ get_or xs i x → ((y : A) → P y → Q y) → All P (take i xs) → Q x → All Q (take (i + 1) xs)
all_more P Q xs i x low is weaker before here = All-more Q xs i x low (All-weaker P Q weaker (take i xs) before) (subst Q is here)

-- after the last place it holds of each element
pub all_there : {A : Type 0} (P : A → Type 0) (xs : List A) (i : ℕ) (x : A) → length xs ≤ i → All P (take i xs) → Contains xs x → P x
all_there P xs i x end h c = All-contains P xs x (rw (take_all i xs end) at h) c

-- what holds of the numbers below i, though it be said otherwise meanwhile, and of i
pub below_next : (P Q : ℕ → Type 0) (i : ℕ) → ((n : ℕ) → P n → Q n) → ((n : ℕ) → n < i → P n) → Q i → (n : ℕ) → n < i + 1 → Q n
below_next P Q i weaker before here n low = elim (same_or_other n i) [
  | inl e ↦ subst Q (sym e) here
  | inr other ↦ weaker n (before n (below_other n i low other))
]
