-- Which queries are refused.
use Rattle.std.specs.Prelude.{◌≢◌, List, Option, None, Some, Ok, Err}
use Rattle.mst_lang.specs.declared.line.Query.{Query}
use Rattle.mst_net.specs.tables.declared.refusal.Refusal.{Refusal}
use Rattle.mst_net.specs.tables.declared.refusal.Refusal.TheVariants.{E99}
use Rattle.mst_rows.specs.Rows.{Row}
use Rattle.mst_report.specs.Answers.{Answers}
use Rattle.mst_report.specs.State.{State}

-- some rows answer the query
abbrev pub HasRows : Query → State → Type 0
HasRows query s = (rows : List Row) × Answers query s (Ok rows)

-- this refusal answers it, or none does and rows do
abbrev pub IsRefusal : Query → State → Option Refusal → Type 0
IsRefusal query s None = HasRows query s
IsRefusal query s (Some refusal) = (refusal ≢ E99) × Answers query s (Err refusal)
