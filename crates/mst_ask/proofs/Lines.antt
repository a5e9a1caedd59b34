-- The lines of a text, taken one by one.
use Rattle.std.proofs.Common.{◌≡◌, ℕ, true, false, nat_eq, cond, List, [], ◌∷◌, ◌++◌, refl, ap}
use Rattle.mst_lang.specs.Lines.{drop_cr, last_line, no_line, lines_from}

-- what follows the complete lines of a front is lines, too
pub ended_then : (bytes rest part : List ℕ) → (others : List (List ℕ)) × (lines_from last_line part (bytes ++ rest) ≡ lines_from no_line part bytes ++ others)
ended_then [] rest part = (lines_from last_line part rest, refl)
ended_then (b ∷ bs) rest part =
    elim (nat_eq b 10) as (λ t. (others : List (List ℕ)) × (cond t (drop_cr part ∷ lines_from last_line [] (bs ++ rest)) (lines_from last_line (part ++ b ∷ []) (bs ++ rest))
    ≡ cond t (drop_cr part ∷ lines_from no_line [] bs) (lines_from no_line (part ++ b ∷ []) bs) ++ others)) [
      | true ↦ let more = ended_then bs rest [] in (more.0, ap (λ lines. drop_cr part ∷ lines) more.1)
      | false ↦ ended_then bs rest (part ++ b ∷ [])
    ]
