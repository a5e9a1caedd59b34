-- The line of a digest has that of what saves the network.
use Rattle.std.proofs.Common.{◌≡◌, ℕ, List, [], ◌∷◌, ◌++◌, codes, Ok, Err, sym, ap, ◌∙◌, append-nil}
use Rattle.std.specs.Prelude.{Result}
use Rattle.std.specs.List.{flat_map}
use Rattle.mst_ids.specs.Words.{after_space, line}
use Rattle.mst_net.specs.tables.declared.refusal.Refusal.{Refusal}
use Rattle.mst_net.specs.tables.Tables.{Net}
use Rattle.mst_rows.specs.Lines.{row_line}
use Rattle.mst_rows.specs.Rows.{Row}
use Rattle.mst_edits.specs.Digest.{digits_row}
use Rattle.mst_edits.specs.EditRows.{save_rows}
use Rattle.mst_edits.specs.SaveText.{save_text}

-- rows as an answer, and the rows of one
abbrev pub answer_of : List Row → Result (List Row) Refusal
answer_of rows = Ok rows

rows_in : Result (List Row) Refusal → List Row
rows_in (Ok rows) = rows
rows_in (Err refusal) = []

digits_said : (digits : List ℕ) → flat_map row_line (digits_row digits ∷ []) ≡ line (codes "digest" ∷ digits ∷ [])
digits_said digits = append-nil (codes "digest" ++ (flat_map after_space (digits ∷ []) ++ 10 ∷ []))

-- whatever the digits are made by
pub digest_said : (hash : List ℕ → List ℕ) (net : Net) (saved told : List Row) → answer_of saved ≡ answer_of (save_rows net) → answer_of told ≡ answer_of (digits_row (hash (save_text net)) ∷ [])
    → flat_map row_line told ≡ line (codes "digest" ∷ hash (flat_map row_line saved) ∷ [])
unfolding rows_in
digest_said hash net saved told is_saved is_told =
    ap (λ answer. flat_map row_line (rows_in answer)) is_told ∙ digits_said (hash (save_text net))
    ∙ ap (λ answer. line (codes "digest" ∷ hash (flat_map row_line (rows_in answer)) ∷ [])) (sym is_saved)
