-- The outcome of a tree among those of all.
use Rattle.std.proofs.Common.{◌≡◌, ℕ, ◌==◌, Bool, true, false, cond, nat_eq, List, [], ◌∷◌, Some, None, refl, sym, ap, ◌∙◌}
use Rattle.std.specs.Option.{option_map}
use Rattle.std.specs.Map.{lookup}
use Rattle.std.proofs.lemmas.Bool.{eqb-true}
use Rattle.mst_forest.specs.Mstis.{Msti, outcomes}

-- the outcome of a tree among the outcomes of all
pub outcome_found : (mstis : List (ℕ × Msti)) (tree : ℕ) → lookup (nat_eq tree) (outcomes mstis) ≡ option_map (λ s. s.outcome) (lookup (nat_eq tree) mstis)
outcome_found [] tree = refl
outcome_found (e ∷ es) tree = go (nat_eq tree e.0) (outcome_found es tree)
  where
    go : (b : Bool) → lookup (nat_eq tree) (outcomes es) ≡ option_map (λ s. s.outcome) (lookup (nat_eq tree) es)
        → cond b (Some e.1.outcome) (lookup (nat_eq tree) (outcomes es)) ≡ option_map (λ s. s.outcome) (cond b (Some e.1) (lookup (nat_eq tree) es))
    go true rest = refl
    go false rest = rest

-- a number other than 0
pub not_zero : (n : ℕ) → (n ≡ 0 → ⊥) → (n == 0) ≡ false
not_zero n differs = go (n == 0) refl
  where
    go : (b : Bool) → (n == 0) ≡ b → (n == 0) ≡ false
    go true e = absurd (differs (eqb-true n 0 e))
    go false e = e

-- the outcome of a tree that is there, and of one that isn't
pub found_some : (mstis : List (ℕ × Msti)) (tree : ℕ) (s : Msti) → Some s ≡ lookup (nat_eq tree) mstis → Some s.outcome ≡ lookup (nat_eq tree) (outcomes mstis)
found_some mstis tree s e = ap (option_map (λ (s : Msti). s.outcome)) e ∙ sym (outcome_found mstis tree)

pub found_none : (mstis : List (ℕ × Msti)) (tree : ℕ) → None ≡ lookup (nat_eq tree) mstis → None ≡ lookup (nat_eq tree) (outcomes mstis)
found_none mstis tree e = ap (option_map (λ (s : Msti). s.outcome)) e ∙ sym (outcome_found mstis tree)
