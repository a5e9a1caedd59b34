-- Two names are equal or not, and a name is in a list or not.
use Rattle.std.proofs.Common.{◌≡◌, ◌≢◌, ◌⊎◌, inl, inr, ℕ, Bool, true, false, List, [], ◌∷◌, refl, sym, ap, ◌∙◌, subst, true≢false}
use Rattle.std.specs.List.{Contains}
use Rattle.std.specs.Cmp.Lexicographic.{nat_list_eq_equiv}
use Rattle.mst_graph.proofs.Members.{cases, here, there, in_none}
use Rattle.mst_view.specs.Aggregation.{same_name}
use Rattle.mst_view.proofs.Names.{same_names}

pub name_cases : (a b : List ℕ) → (a ≡ b) ⊎ (a ≢ b)
name_cases a b = go (same_name a b) refl
  where
    go : (t : Bool) → same_name a b ≡ t → (a ≡ b) ⊎ (a ≢ b)
    go true e = inl (same_names a b e)
    go false e = inr (λ same. true≢false (sym (nat_list_eq_equiv.refl a) ∙ ap (same_name a) same ∙ e))

pub listed_or_not : (names : List (List ℕ)) (a : List ℕ) → Contains names a ⊎ (Contains names a → ⊥)
listed_or_not [] a = inr (in_none a)
listed_or_not (b ∷ names) a = go (name_cases b a) (listed_or_not names a)
  where
    go : (b ≡ a) ⊎ (b ≢ a) → Contains names a ⊎ (Contains names a → ⊥) → Contains (b ∷ names) a ⊎ (Contains (b ∷ names) a → ⊥)
    go (inl e) rest = inl (subst (λ n. Contains (b ∷ names) n) e (here b names))
    go (inr n) (inl h) = inl (there b a names h)
    go (inr n) (inr m) = inr (λ h. elim (cases b a names h) [ inl e ↦ n e | inr k ↦ m k ])
