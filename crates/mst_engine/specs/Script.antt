-- What a script prints.
use Rattle.std.specs.Prelude.{◌≡◌, ℕ, Bool, true, false, ◌==◌, List, [], ◌∷◌, Some, None, Result, Ok, Err, if◌then◌else◌}
use Rattle.mst_lang.specs.declared.line.Edit.{Edit}
use Rattle.mst_lang.specs.declared.line.Edit.TheVariants.{AddBridge, DelBridge, SetBridge, AddPort, DelPort, SetPort, AddLan, DelLan, SetLan, Plug, Unplug, SetByTree}
use Rattle.mst_lang.specs.declared.line.Line.{Line}
use Rattle.mst_lang.specs.declared.line.Line.TheVariants.{Blank, Mark, Edit as edit, Query as query}
use Rattle.mst_lang.specs.declared.line.Fault.{Fault}
use Rattle.mst_lang.specs.declared.line.Query.{Query}
use Rattle.mst_lang.specs.declared.line.Version.{Version}
use Rattle.mst_lang.specs.declared.line.Version.TheVariants.{V1, V2}
use Rattle.mst_lang.specs.Reading.{reading_as, says_version_2}
use Rattle.mst_lang.specs.Faults as fault
use Rattle.mst_net.specs.tables.declared.refusal.Refusal.{Refusal}
use Rattle.mst_net.specs.tables.declared.refusal.Refusal.TheVariants.{E99}
use Rattle.mst_net.specs.tables.Refusals as refusal
use Rattle.mst_net.specs.tables.Tables.{Net}
use Rattle.mst_net.specs.tables.After.{after}
use Rattle.mst_report.specs.changes.declared.subject.Entry.{Entry}
use Rattle.mst_report.specs.Answers.{Answers}
use Rattle.mst_report.specs.State.{State, IsMarkNow, empty_state}
use Rattle.mst_print.specs.Shape.{of_script, coded, shown, query_row}
use Rattle.mst_rows.specs.Rows.{Row}
use Rattle.mst_engine.specs.Steps.{Step, RunsBy, silent, printed}
use Rattle.mst_print.specs.declared.form.Form.{Form}
use Rattle.mst_print.specs.declared.form.Shape.{Shape}

-- a line that is refused changes nothing
abbrev pub refused : Shape → ℕ → List ℕ → List ℕ → State → Step
refused shape number code text now = record { state = now; text = coded shape number code text; refused = true; lacking = false; differs = false; answers = false }

-- nor does one that is refused for want of memory
abbrev pub starved : Shape → ℕ → State → Step
starved shape number now = record { state = now; text = coded shape number (refusal.code_of E99) (refusal.text_of E99); refused = false; lacking = true; differs = false; answers = false }

-- an edit, by what it makes of the network. For want of memory it isn't made
abbrev pub edited : Shape → Bool → ℕ → State → Result Net Refusal → Step
edited shape lacks number now (Err r) = refused shape number (refusal.code_of r) (refusal.text_of r) now
edited shape true number now (Ok new) = starved shape number now
edited shape false number now (Ok new) = silent (record now { net = new })

-- a mark of these entries, which nothing refuses. For want of memory it isn't made
abbrev pub marked : Shape → Bool → ℕ → State → List Entry → Step
marked shape true number now entries = starved shape number now
marked shape false number now entries = silent (record now { mark = Some entries })

-- a query, by its answer. For want of memory no row is printed
abbrev pub answered : Shape → Bool → ℕ → State → Query → Result (List Row) Refusal → Step
answered shape lacks number now q (Err r) = refused shape number (refusal.code_of r) (refusal.text_of r) now
answered shape true number now q (Ok rows) = starved shape number now
answered shape false number now q (Ok rows) = printed now (shown shape.form (Some number) (query_row q) rows)

-- what is printed of rows that answer a query, in the line of this number
abbrev pub PrintsAnswer : Form → ℕ → State → Query → List ℕ → Type 0
PrintsAnswer form number now q text = (rows : List Row) × Answers q now (Ok rows) × (text ≡ shown form (Some number) (query_row q) rows)

-- the edit may add a record, or something that is set by tree or VID. Any other finds its room there
abbrev pub may_grow : Edit → Bool
may_grow (AddBridge bridge mac) = true
may_grow (DelBridge bridge) = false
may_grow (SetBridge bridge change) = false
may_grow (AddPort port) = true
may_grow (DelPort port) = false
may_grow (SetPort port change) = false
may_grow (AddLan lan) = true
may_grow (DelLan lan) = false
may_grow (SetLan lan change) = false
may_grow (Plug port lan) = true
may_grow (Unplug port) = false
may_grow (SetByTree change) = true

-- what a line that is read in this way does in a state, where what is printed has this shape
abbrev pub ServesRead : Shape → ℕ → State → Result Line Fault → Step → Type 0
ServesRead shape number now (Err f) s = s ≡ refused shape number (fault.code_of f) (fault.text_of f) now
ServesRead shape number now (Ok Blank) s = s ≡ silent now
ServesRead shape number now (Ok Mark) s = (entries : List Entry) × IsMarkNow now.net entries × (s ≡ marked shape s.lacking number now entries)
ServesRead shape number now (Ok (edit e)) s = (s ≡ edited shape s.lacking number now (after e now.net)) × (s.lacking ≡ true → may_grow e ≡ true)
ServesRead shape number now (Ok (query q)) s = (answer : Result (List Row) Refusal) × Answers q now answer × (s ≡ answered shape s.lacking number now q answer)

-- the version that a script's first line says
abbrev pub version_said : List ℕ → Version
version_said line = if says_version_2 line then V2 else V1

-- the version of a script of these lines
abbrev pub version_of : List (List ℕ) → Version
version_of [] = V1
version_of (line ∷ lines) = version_said line

-- how the line of this number is read. The first line of a script of version 2 says so, and nothing else
abbrev pub reading_at : Version → ℕ → List ℕ → Result Line Fault
reading_at V1 number line = reading_as V1 line
reading_at V2 number line = if number == 1 then Ok Blank else reading_as V2 line

-- what the line of this number does in a state, in a script of this version, where this form is printed
abbrev pub Serves : Form → Version → ℕ → State → List ℕ → Step → Type 0
Serves form version number now line s = ServesRead (of_script form) number now (reading_at version number line) s

-- the lines of a script do these steps one after another, from the empty state on
abbrev pub Runs : Form → List (List ℕ) → List Step → Type 0
Runs form lines steps = RunsBy (Serves form (version_of lines)) 1 empty_state lines steps

-- how a line is read where the network of a script is loaded and nothing is asked of it: a query and a mark say nothing
-- then, and are not refused
abbrev pub loading : Result Line Fault → Result Line Fault
loading (Err f) = Err f
loading (Ok Blank) = Ok Blank
loading (Ok Mark) = Ok Blank
loading (Ok (edit e)) = Ok (edit e)
loading (Ok (query q)) = Ok Blank

-- what the line of this number does in a state, in a script of this version whose network is loaded, and whose refusals have
-- this shape
abbrev pub Loads : Shape → Version → ℕ → State → List ℕ → Step → Type 0
Loads shape version number now line s = ServesRead shape number now (loading (reading_at version number line)) s

-- the lines of a script do these steps one after another, from the empty state on, where its network is loaded
abbrev pub LoadsAll : Shape → List (List ℕ) → List Step → Type 0
LoadsAll shape lines steps = RunsBy (Loads shape (version_of lines)) 1 empty_state lines steps

-- the state without its mark
abbrev pub unmarked : State → State
unmarked now = record now { mark = None }
