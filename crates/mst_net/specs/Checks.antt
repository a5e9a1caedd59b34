-- The answer of a check of an edit.
use Rattle.std.specs.Prelude.{⊤, Option, Result, Ok, Err}
use Rattle.std.specs.Option.{option_map_or}
use Rattle.mst_tables.specs.declared.refusal.Refusal.{Refusal}

-- the edit is accepted where nothing refuses it
abbrev pub answer_of : Option Refusal → Result ⊤ Refusal
answer_of refusal = option_map_or Err refusal (Ok tt)
