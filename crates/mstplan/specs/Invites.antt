-- What an engineer is told for whom the program waits at a terminal.
use Rattle.std.specs.Prelude.{ℕ, Bool, List, [], Result, Ok, Err, codes, nat_lt, if◌then◌else◌}
use Rattle.std.specs.Str.{bytes_eq}
use Rattle.mst_command.specs.declared.stop.Stop.{Stop}
use Rattle.mst_command.specs.declared.words.Asked.{Asked}
use Rattle.mst_command.specs.declared.words.Behind.{Behind}
use Rattle.mst_command.specs.declared.table.Verb.{Verb}
use Rattle.mst_command.specs.declared.table.Verb.TheVariants.{Run, Ask}

-- with so many words, of which the first is the program's name: for a script, where there is no other; and for questions, where
-- they don't come behind the script
abbrev pub waits_by : ℕ → Verb → Behind → List ℕ
waits_by words Run behind = if nat_lt words 2 then codes "mstplan: reading a script from the terminal, until Ctrl-D; --help tells of its commands\n" else []
waits_by words Ask behind = if bytes_eq behind.first.now (codes "-") then [] else codes "mstplan: reading questions from the terminal, until Ctrl-D; --help tells of them\n"
waits_by words _ behind = []

abbrev pub waits_for : ℕ → Result Asked Stop → List ℕ
waits_for words (Ok asked) = waits_by words asked.verb asked.behind
waits_for words (Err stop) = []

-- the line on standard error, before anything is read, where standard input is a terminal
abbrev pub invitation : Bool → ℕ → Result Asked Stop → List ℕ
invitation is_terminal words asked = if is_terminal then waits_for words asked else []
