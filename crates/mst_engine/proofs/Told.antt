-- What a query does that rows answer.
use Rattle.std.proofs.Common.{◌≡◌, ℕ, List, Some, Ok, ap}
use Rattle.mst_lang.specs.declared.line.Line.TheVariants.{Query as query}
use Rattle.mst_lang.specs.declared.line.Query.{Query}
use Rattle.mst_report.specs.Answers.{Answers}
use Rattle.mst_report.specs.State.{State}
use Rattle.mst_rows.specs.Rows.{Row}
use Rattle.mst_engine.specs.Script.{ServesRead, starved}
use Rattle.mst_print.specs.Shape.{shown, query_row}
use Rattle.mst_engine.specs.Steps.{printed}
use Rattle.mst_print.specs.declared.form.Shape.{Shape}

module _ (shape : Shape) (number : ℕ) (now new : State) (same : new ≡ now) (q : Query) (rows : List Row) (answers : Answers q now (Ok rows)) where
  -- they are printed
  pub rows_told : (text : List ℕ) → text ≡ shown shape.form (Some number) (query_row q) rows → ServesRead shape number now (Ok (query q)) (printed new text)
  rows_told text e = (Ok rows, answers, λ i. printed (same i) (e i))

  -- or there is no memory for that
  pub rows_starved : ServesRead shape number now (Ok (query q)) (starved shape number new)
  rows_starved = (Ok rows, answers, ap (starved shape number) same)
