-- What is printed of a question of the command line, and the question as a row.
use Rattle.std.specs.Prelude.{◌≡◌, ℕ, List, None}
use Rattle.mst_kinds.specs.declared.kind.Kind.TheVariants.{Query as OfQuery}
use Rattle.mst_kinds.specs.declared.query.Query.{Query}
use Rattle.mst_engine.specs.print.Shape.{shown}
use Rattle.mst_engine.specs.print.declared.form.Form.{Form}
use Rattle.mst_rows.specs.Cells.{Cell}
use Rattle.mst_rows.specs.Rows.{Row, row_of}

-- what shows some of the rows that answer a question, which no line asks
abbrev pub IsShown : Form → Row → (List Row → Type 0) → List ℕ → Type 0
IsShown form question Answers printed = (rows : List Row) × Answers rows × (printed ≡ shown form None question rows)

-- a question with its words
abbrev pub question_row : Query → List Cell → Row
question_row question words = row_of (OfQuery question) words
