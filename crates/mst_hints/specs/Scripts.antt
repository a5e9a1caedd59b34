-- What would be right in the lines of a script that are refused.
use Rattle.std.specs.Prelude.{ℕ, ◌+◌, Bool, true, false, ◌||◌, List, [], ◌∷◌, ◌++◌, Option, Some, None, Result, Ok, Err, is_ok, codes, decimal, if◌then◌else◌}
use Rattle.std.specs.Option.{option_map, option_map_or, option_flatten, option_or, unwrap_or}
use Rattle.std.specs.Result.{result_ok}
use Rattle.std.specs.Map.{lookup}
use Rattle.mst_lang.specs.Reading.{reading_as, says_version_2}
use Rattle.mst_lang.specs.declared.line.Fault.{Fault}
use Rattle.mst_lang.specs.declared.line.Line.{Line}
use Rattle.mst_lang.specs.declared.line.Line.TheVariants.{Blank, Mark, Edit as edit, Query as query}
use Rattle.mst_lang.specs.declared.line.Query.TheVariants.{Changes, ShowConfiguration}
use Rattle.mst_lang.specs.declared.line.Version.{Version}
use Rattle.mst_lang.specs.declared.line.Version.TheVariants.{V1, V2}
use Rattle.mst_net.specs.tables.After.{after, has_bridge}
use Rattle.mst_net.specs.tables.Tables.{Net, empty_net}
use Rattle.mst_net.specs.tables.declared.refusal.Refusal.{Refusal}
use Rattle.mst_net.specs.tables.declared.refusal.Refusal.TheVariants.{E04, E16}
use Rattle.mst_hints.specs.Hints.{hint_of, hint_line}
use Rattle.mst_hints.specs.Records.{missing_of, added_of, made_by, same_record}
use Rattle.mst_hints.specs.Puts.{Put, put_by, with_put}
use Rattle.mst_hints.specs.Standing.{Making, record_text, standing_of}
use Rattle.mst_hints.specs.declared.record.Record.{Record}
use Rattle.mst_hints.specs.declared.whose.Script.{Script}
use Rattle.mst_hints.specs.declared.whose.Script.TheVariants.{Run, Loaded, Old, New, Policy, Change}

-- ---- the scripts that hints are of
-- what stands before each hint, which tells the two inputs apart
abbrev pub text_before : Script → List ℕ
text_before Run = []
text_before Loaded = []
text_before Old = codes "old "
text_before New = codes "new "
text_before Policy = codes "policy "
text_before Change = codes "change "

-- whether the script's queries are asked and its marks made. Else its network alone is loaded
abbrev pub is_run : Script → Bool
is_run Run = true
is_run Loaded = false
is_run Old = false
is_run New = false
is_run Policy = false
is_run Change = false

-- what a line says where the network alone is loaded: a query and a mark say nothing then
abbrev pub edit_alone : Result Line Fault → Result Line Fault
edit_alone (Ok Mark) = Ok Blank
edit_alone (Ok (query q)) = Ok Blank
edit_alone reading = reading

-- ---- how the lines of a script are read
-- the version of a script at its next line: it is known already, or this line, the first one, says it
abbrev pub version_with : Option Version → List ℕ → Version
version_with (Some version) line = version
version_with None line = if says_version_2 line then V2 else V1

-- the first line of a script of version 2 says so, and nothing else
abbrev pub reading_with : Option Version → List ℕ → Result Line Fault
reading_with (Some version) line = reading_as version line
reading_with None line = if says_version_2 line then Ok Blank else reading_as V1 line

-- what a line says, by whether the script is run
abbrev pub saying_with : Bool → Option Version → List ℕ → Result Line Fault
saying_with asks version line = if asks then reading_with version line else edit_alone (reading_with version line)

-- ---- what they make
-- what a line that is read makes of the network, or why it is refused, by whether the network was marked. A query for the
-- configuration of a bridge asks that it is there, and one for changes that there is a mark
abbrev pub after_line : Bool → Line → Net → Result Net Refusal
after_line marked (edit e) net = after e net
after_line marked (query (ShowConfiguration bridge)) net = if has_bridge bridge net then Ok net else Err E04
after_line marked (query Changes) net = if marked then Ok net else Err E16
after_line marked _ net = Ok net

-- of the lines that are read, edits alone make another one
abbrev pub net_after : Line → Net → Net
net_after line net = unwrap_or (result_ok (after_line true line net)) net

-- whether a line is made, and the network after it, by how it is read
abbrev pub is_made : Bool → Net → Result Line Fault → Bool
is_made marked net (Err f) = false
is_made marked net (Ok line) = is_ok (after_line marked line net)

abbrev pub net_with : Net → Result Line Fault → Net
net_with net (Err f) = net
net_with net (Ok line) = net_after line net

-- ---- the lines that were to add a record
-- the record that each of them was to add, the last line first, and the number of the line where it was refused or not
-- read
abbrev pub Adding : Type 0
Adding = Record × Option ℕ

-- with one line more, by whether it was made
abbrev pub noted : ℕ → List Adding → Option Record → Bool → List Adding
noted number adds None made = adds
noted number adds (Some added) made = (added, if made then None else Some number) ∷ adds

-- the last line that was to add a record, where that line was refused or not read
abbrev pub last_adding : Record → List Adding → Option ℕ
last_adding wanted adds = option_flatten (lookup (λ added. same_record added wanted) adds)

-- ---- the lines that made one
-- by the edit of a line that was made
abbrev pub making_of : Bool → Result Line Fault → Option Record
making_of true (Ok (edit e)) = made_by e
making_of _ reading = None

abbrev pub with_making : ℕ → List Making → Option Record → List Making
with_making number makings None = makings
with_making number makings (Some made) = (made, number) ∷ makings

-- ---- what lines put into what
-- by the edit of a line that was made
abbrev pub put_of : Bool → Result Line Fault → Option Put
put_of true (Ok (edit e)) = put_by e
put_of _ reading = None

-- whether the line marks
abbrev pub is_mark : Result Line Fault → Bool
is_mark (Ok Mark) = true
is_mark _ = false

-- ---- the lines that came so far
-- what stands before each hint, whether the script is run, its version, once its first line has come, the number of the next
-- line, the network, whether it was marked, the lines that were to add a record and those that made one, and what they put into
-- what
pub record Past : Type 0 where
  pub of : List ℕ
  pub asks : Bool
  pub version : Option Version
  pub number : ℕ
  pub net : Net
  pub marked : Bool
  pub adds : List Adding
  pub makings : List Making
  pub puts : List Put

abbrev pub nothing : Script → Past
nothing script = record { of = text_before script; asks = is_run script; version = None; number = 1; net = empty_net; marked = false; adds = []; makings = []; puts = [] }

-- and with one line more
abbrev pub past_after : Past → List ℕ → Past
past_after past line = let reading = saying_with past.asks past.version line in let made = is_made past.marked past.net reading in
    record {
      of = past.of;
      asks = past.asks;
      version = Some (version_with past.version line);
      number = past.number + 1;
      net = net_with past.net reading;
      marked = past.marked || is_mark reading;
      adds = noted past.number past.adds (added_of line) made;
      makings = with_making past.number past.makings (making_of made reading);
      puts = with_put past.puts (put_of made reading);
    }

-- ---- the hints
-- there is no such record, and which line was to add it
abbrev pub since_text : ℕ → List ℕ
since_text number = codes ": line " ++ decimal number ++ codes " was to add it"

abbrev pub absent_text : Option ℕ → Record → List ℕ
absent_text since wanted = codes "no " ++ record_text wanted ++ option_map_or since_text since []

abbrev pub missing_hint : List Adding → Option Record → Option (List ℕ)
missing_hint adds = option_map (λ wanted. absent_text (last_adding wanted adds) wanted)

-- of a line that is read, by what it makes of the network: the record that isn't there, or what stands in the way
abbrev pub refused_text : List Adding → List Making → List Put → Net → Line → Refusal → Option (List ℕ)
refused_text adds makings puts net line refusal = option_or (missing_hint adds (missing_of line refusal)) (standing_of makings puts net line refusal)

abbrev pub refused_hint : List Adding → List Making → List Put → Net → Line → Result Net Refusal → Option (List ℕ)
refused_hint adds makings puts net line (Ok new) = None
refused_hint adds makings puts net line (Err refusal) = refused_text adds makings puts net line refusal

-- of a line by how it is read
abbrev pub read_hint : Past → List ℕ → Result Line Fault → Option (List ℕ)
read_hint past line (Err f) = hint_of (version_with past.version line) line
read_hint past line (Ok read) = refused_hint past.adds past.makings past.puts past.net read (after_line past.marked read past.net)

-- what is printed of the next line
abbrev pub hint_after : Past → List ℕ → List ℕ
hint_after past line = hint_line past.of past.number (read_hint past line (saying_with past.asks past.version line))

-- of the lines that follow
abbrev pub hints_from : Past → List (List ℕ) → List ℕ
hints_from past [] = []
hints_from past (line ∷ lines) = hint_after past line ++ hints_from (past_after past line) lines

-- of all lines of a script
abbrev pub hints_of : Script → List (List ℕ) → List ℕ
hints_of script lines = hints_from (nothing script) lines
