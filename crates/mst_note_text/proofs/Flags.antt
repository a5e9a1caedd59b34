-- The flags of trees.
use Rattle.std.proofs.Common.{◌≡◌, ℕ, ◌==◌, ◌||◌, Bool, true, false, List, length, get_or, set, sym, ap, ◌∙◌, arith, ⊎_elim, eq-eqb}
use Rattle.std.proofs.lemmas.Bool.{cases_eq, ne_eqb}
use Rattle.std.proofs.lemmas.List.{get_or-set_same, get_or-set_other}

-- the CIST has its flag, too
pub cist_had : (used : List Bool) (tree : ℕ) → length used ≡ 4095 → get_or (set used 0 true) tree false ≡ (tree == 0 || get_or used tree false)
cist_had used tree long = ⊎_elim
    (λ e. ap (λ t. get_or (set used 0 true) t false) e ∙ get_or-set_same used 0 true false (omega arith) ∙ sym (ap (λ b. b || get_or used tree false) (eq-eqb tree 0 e)))
    (λ other. get_or-set_other used 0 tree true false other ∙ sym (ap (λ b. b || get_or used tree false) (ne_eqb tree 0 other))) (cases_eq tree 0)
