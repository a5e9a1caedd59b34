-- Lines that are added one after another.
use Rattle.std.proofs.Common.{◌≡◌, ℕ, Bool, List, [], ◌∷◌, ◌++◌, map, sym, ap, ◌∙◌, append_assoc}
use Rattle.std.proofs.lemmas.List.{map-append}
use Rattle.mst_edits.specs.Runs.{vids_of}
use Rattle.mst_edits.specs.declared.moves.Move.{Move}
use Rattle.mst_edits.specs.TableLines.{move}

abbrev pub moves_of : ℕ → List (List (ℕ × ℕ)) → List Move
moves_of tree lines = map (λ runs. move tree (vids_of runs)) lines

-- one more line
pub one_line : (tree : ℕ) (before : List (List (ℕ × ℕ))) (line : List (ℕ × ℕ)) (set : List Bool) (old now new : List Move) → set ≡ vids_of line → now ≡ old ++ moves_of tree before → new ≡ now ++ move tree set ∷ []
    → new ≡ old ++ moves_of tree (before ++ line ∷ [])
one_line tree before line set old now new is so_far more =
    more ∙ ap (λ (l : List Move). l ++ move tree set ∷ []) so_far ∙ append_assoc old (moves_of tree before) (move tree set ∷ [])
    ∙ ap (λ s. old ++ (moves_of tree before ++ move tree s ∷ [])) is
    ∙ ap (λ (l : List Move). old ++ l) (sym (map-append (λ runs. move tree (vids_of runs)) before (line ∷ [])))
