-- What refusals and answers are printed as: as texts or as JSON, and of which script.
use Rattle.std.specs.Prelude.{◌≡◌, ℕ, List, [], ◌∷◌, ◌++◌, Option, None, Some, false}
use Rattle.std.specs.List.{flat_map}
use Rattle.mst_kinds.specs.Kinds.{parts_of_refusal_line}
use Rattle.mst_kinds.specs.declared.key.Key.TheVariants as key
use Rattle.mst_kinds.specs.declared.kind.Kind.TheVariants as kind
use Rattle.mst_kinds.specs.declared.part.Part.TheVariants as part
use Rattle.mst_kinds.specs.declared.query.Query.TheVariants as asked
use Rattle.mst_kinds.specs.declared.refusal_line.RefusalLine.{RefusalLine}
use Rattle.mst_kinds.specs.declared.refusal_line.RefusalLine.TheVariants.{Line, OldLine, NewLine}
use Rattle.mst_lang.specs.declared.line.Query.{Query}
use Rattle.mst_lang.specs.declared.line.Query.TheVariants.{ShowPlan, ShowLag, ShowRegions, ShowNotes, ShowTree, ShowVlan, ShowConfiguration, Changes, Save, Digest}
use Rattle.mst_rows.specs.Answers.{answer_text, follow, head_text, record_line, records_text, refusal_line, unanswered_line}
use Rattle.mst_rows.specs.Cells.{word, number as number_cell}
use Rattle.mst_rows.specs.Lines.{row_line}
use Rattle.mst_rows.specs.Rows.{Row, row_of}
use Rattle.mst_print.specs.declared.form.Form.{Form}
use Rattle.mst_print.specs.declared.form.Form.TheVariants.{Text, Json}
use Rattle.mst_print.specs.declared.form.Side.{Side}
use Rattle.mst_print.specs.declared.form.Side.TheVariants.{Only, Old, New}
use Rattle.mst_print.specs.declared.form.Shape.{Shape}
use Rattle.mst_print.specs.declared.printer.Printer.{Printer}
use Rattle.mst_print.specs.declared.printer.Printer.TheVariants.{Lines, Records}

-- what is printed of the only script, and of the old and the new one of two
abbrev pub of_script : Form → Shape
of_script form = record { form = form; side = Only }

abbrev pub of_old : Form → Shape
of_old form = record { form = form; side = Old }

abbrev pub of_new : Form → Shape
of_new form = record { form = form; side = New }

-- ---- answers
-- the rows that answer a query, which the line of this number asks, if one does: their lines, or an object of JSON
abbrev pub shown : Form → Option ℕ → Row → List Row → List ℕ
shown Text line query rows = flat_map row_line rows
shown Json line query rows = answer_text line query rows

-- the same of rows that answer no query: their lines, or each record on a line of its own
abbrev pub listed : Form → List Row → List ℕ
listed Text rows = flat_map row_line rows
listed Json rows = flat_map record_line rows

-- a query with its words
abbrev pub query_row : Query → Row
query_row ShowPlan = row_of (kind.Query asked.ShowPlan) []
query_row ShowLag = row_of (kind.Query asked.ShowLag) []
query_row ShowRegions = row_of (kind.Query asked.ShowRegions) []
query_row ShowNotes = row_of (kind.Query asked.ShowNotes) []
query_row (ShowTree tree) = row_of (kind.Query asked.ShowTree) (number_cell tree ∷ [])
query_row (ShowVlan vid) = row_of (kind.Query asked.ShowVlan) (number_cell vid ∷ [])
query_row (ShowConfiguration bridge) = row_of (kind.Query asked.ShowMstconfid) (word bridge ∷ [])
query_row Changes = row_of (kind.Query asked.Changes) []
query_row Save = row_of (kind.Query asked.Save) []
query_row Digest = row_of (kind.Query asked.Digest) []

-- ---- what prints an answer
-- it got these rows between
abbrev pub Grew : Printer → Printer → List Row → Type 0
Grew (Lines first) (Lines now) rows = now.items ≡ first.items ++ flat_map row_line rows
Grew (Lines first) (Records now) rows = ⊥
Grew (Records first) (Lines now) rows = ⊥
Grew (Records first) (Records now) rows = (now.out.items ≡ first.out.items ++ records_text first.follows rows) × (now.follows ≡ follow first.follows rows)

-- the answer to this query was begun, in the line of this number, if one asks it
abbrev pub IsOpen : Form → Option ℕ → Row → Printer → Type 0
IsOpen Text line query (Lines out) = out.items ≡ []
IsOpen Text line query (Records json) = ⊥
IsOpen Json line query (Lines out) = ⊥
IsOpen Json line query (Records json) = (json.out.items ≡ head_text line query) × (json.follows ≡ false)

-- ---- refusals
-- the kind of the row of a refusal, by the script
abbrev pub refusal_line_of : Side → RefusalLine
refusal_line_of Only = Line
refusal_line_of Old = OldLine
refusal_line_of New = NewLine

-- the line of this number is refused, by this code and text
abbrev pub refusal_row : Side → ℕ → List ℕ → List ℕ → Row
refusal_row side number code text = row_of (kind.Refusal (refusal_line_of side)) (number_cell number ∷ word code ∷ word text ∷ [])

abbrev pub coded_in : Form → Side → ℕ → List ℕ → List ℕ → List ℕ
coded_in Text side number code text = row_line (refusal_row side number code text)
coded_in Json side number code text = refusal_line (refusal_row side number code text)

abbrev pub coded : Shape → ℕ → List ℕ → List ℕ → List ℕ
coded shape number code text = coded_in shape.form shape.side number code text

-- the kind says of a question that it isn't answered: of it stands a code and a text
abbrev pub IsOfQuestion : RefusalLine → Type 0
IsOfQuestion line = parts_of_refusal_line line ≡ part.Key key.Error ∷ part.Key key.Text ∷ []

-- it isn't answered, by this code and text
abbrev pub unanswered_row : RefusalLine → List ℕ → List ℕ → Row
unanswered_row line code text = row_of (kind.Refusal line) (word code ∷ word text ∷ [])

abbrev pub unanswered : Form → RefusalLine → List ℕ → List ℕ → List ℕ
unanswered Text line code text = row_line (unanswered_row line code text)
unanswered Json line code text = unanswered_line (unanswered_row line code text)
