-- What printers have, at the beginning and at the end.
use Rattle.std.proofs.Common.{◌≡◌, ◌∙◌, ℕ, Bool, false, List, [], ◌++◌, Option, sym, ap, append_assoc}
use Rattle.std.proofs.lemmas.List.{append-nil}
use Rattle.std.specs.Prelude.{codes}
use Rattle.mst_rows.specs.Rows.{Row}
use Rattle.mst_rows.specs.Answers.{answer_text, head_text, records_text}

-- a text grew by no rows
pub nothing_yet : (text : List ℕ) → text ≡ text ++ []
nothing_yet text = sym (append-nil text)

-- an answer that was opened, got these rows and was closed
pub closed_answer : (line : Option ℕ) (query : Row) (rows : List Row) (follows : Bool) (opened put text : List ℕ) → opened ≡ head_text line query → follows ≡ false → put ≡ opened ++ records_text follows rows → text ≡ put ++ codes "]}\n"
    → text ≡ answer_text line query rows
closed_answer line query rows follows opened put text begun first grown closed =
    closed
    ∙ ap (λ l. l ++ codes "]}\n") (grown ∙ ap (λ l. l ++ records_text follows rows) begun ∙ ap (λ b. head_text line query ++ records_text b rows) first)
    ∙ append_assoc (head_text line query) (records_text false rows) (codes "]}\n")
