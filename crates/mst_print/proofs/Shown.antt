-- What printers have, at the beginning and at the end.
use Rattle.std.proofs.Common.{Vec, Global, ◌≡◌, ◌∙◌, ℕ, Result, List, [], ◌∷◌, ◌++◌, Option, refl, sym, ap, subst, append-nil}
use Rattle.std.specs.Prelude.{codes}
use Rattle.std.specs.List.{flat_map}
use Rattle.mst_rows.specs.Answers.{follow, records_text}
use Rattle.mst_rows.specs.Lines.{row_line}
use Rattle.mst_rows.specs.Rows.{Row}
use Rattle.mst_rows.specs.declared.answer.Json.{Json}
use Rattle.mst_rows.proofs.Printers.{closed_answer}
use Rattle.mst_print.specs.Shape.{Grew, IsOpen, shown}
use Rattle.mst_print.specs.declared.form.Form.{Form}
use Rattle.mst_print.specs.declared.form.Form.TheVariants.{Text, Json as json_form}
use Rattle.mst_print.specs.declared.printer.Printer.{Printer}
use Rattle.mst_print.specs.declared.printer.Printer.TheVariants.{Lines, Records}

-- a printer got no rows yet
pub grew_none : (p : Printer) → Grew p p []
grew_none (Lines out) = sym (append-nil out.items)
grew_none (Records json) = (sym (append-nil json.out.items), refl)

-- ---- one row more
abbrev pub GrewLines : Vec ℕ Global → Vec ℕ Global → List Row → Type 0
GrewLines first now rows = now.items ≡ first.items ++ flat_map row_line rows

abbrev pub GrewRecords : Json → Json → List Row → Type 0
GrewRecords first now rows = (now.out.items ≡ first.out.items ++ records_text first.follows rows) × (now.follows ≡ follow first.follows rows)

pub more_lines : (Says : Type 0 → Type 0) (first : Printer) (was now : Vec ℕ Global) (rows more : List Row) → ((f : Vec ℕ Global) → GrewLines f was rows → Says (GrewLines f now more)) → Grew first (Lines was) rows → Says (Grew first (Lines now) more)
more_lines Says (Lines f) was now rows more step grew = step f grew
more_lines Says (Records f) was now rows more step grew = absurd grew

pub more_records : (Says : Type 0 → Type 0) (first : Printer) (was now : Json) (rows more : List Row) → ((f : Json) → GrewRecords f was rows → Says (GrewRecords f now more)) → Grew first (Records was) rows → Says (Grew first (Records now) more)
more_records Says (Lines f) was now rows more step grew = absurd grew
more_records Says (Records f) was now rows more step grew = step f grew

-- ---- the end
-- the lines of these rows, in a text
pub closed_lines : (form : Form) (line : Option ℕ) (query : Row) (first : Printer) (rows : List Row) (out : Vec ℕ Global) → IsOpen form line query first → Grew first (Lines out) rows → out.items ≡ shown form line query rows
closed_lines Text line query (Lines f) rows out begun grew = grew ∙ ap (λ l. l ++ flat_map row_line rows) begun
closed_lines Text line query (Records f) rows out begun grew = absurd begun
closed_lines json_form line query (Lines f) rows out begun grew = absurd begun
closed_lines json_form line query (Records f) rows out begun grew = absurd grew

-- their object, in JSON
pub closed_records : (form : Form) (line : Option ℕ) (query : Row) (first : Printer) (rows : List Row) (json : Json) (text : List ℕ) → IsOpen form line query first → Grew first (Records json) rows
    → text ≡ json.out.items ++ codes "]}\n" → text ≡ shown form line query rows
closed_records Text line query (Lines f) rows json text begun grew closed = absurd grew
closed_records Text line query (Records f) rows json text begun grew closed = absurd begun
closed_records json_form line query (Lines f) rows json text begun grew closed = absurd begun
closed_records json_form line query (Records f) rows json text begun grew closed = closed_answer line query rows f.follows f.out.items json.out.items text begun.0 begun.1 grew.0 closed
