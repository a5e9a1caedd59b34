-- The records of a row more.
use Rattle.std.proofs.Common.{◌≡◌, ◌∙◌, Bool, true, List, [], ◌∷◌, ◌++◌, refl, sym, ap, append_assoc}
use Rattle.std.proofs.lemmas.List.{append-nil}
use Rattle.mst_rows.specs.Printed.{comma}
use Rattle.mst_rows.specs.Rows.{Row}
use Rattle.mst_rows.specs.Answers.{follow, record_text, records_text}

follow-true : (rows : List Row) → follow true rows ≡ true
follow-true [] = refl
follow-true (r ∷ rows) = refl

pub follow-one : (b : Bool) (rows : List Row) (row : Row) → true ≡ follow b (rows ++ row ∷ [])
follow-one b [] row = refl
follow-one b (r ∷ rows) row = refl

pub records-one : (b : Bool) (rows : List Row) (row : Row) → records_text b (rows ++ row ∷ []) ≡ records_text b rows ++ (comma (follow b rows) ++ record_text row)
records-one b [] row = ap (λ l. comma b ++ l) (append-nil (record_text row))
records-one b (r ∷ rows) row =
    let x = record_text r in
    let y = records_text true rows in
    let z = comma (follow true rows) ++ record_text row in
    ap (λ l. comma b ++ (x ++ l)) (records-one true rows row)
    ∙ ap (λ l. comma b ++ l) (sym (append_assoc x y z))
    ∙ sym (append_assoc (comma b) (x ++ y) z)
    ∙ ap (λ t. (comma b ++ (x ++ y)) ++ (comma t ++ record_text row)) (follow-true rows)
