-- A standing planner, and what questions do to it.
use Rattle.std.specs.Prelude.{◌≡◌, ◌⊎◌, ◌==◌, ◌||◌, ◌++◌, ◌+◌, ℕ, zero, suc, Bool, true, false, not, List, [], ◌∷◌, map, take, count_by, Option, None, Some, IsSome, Result, Ok, Err, IsOk, if◌then◌else◌, reverse}
use Rattle.std.specs.List.{AllByRecursion, flat_map}
use Rattle.mst_kinds.specs.declared.ask_line.AskLine.TheVariants.{Undone, Done}
use Rattle.mst_kinds.specs.declared.kind.Kind.TheVariants as kind
use Rattle.mst_lang.specs.Faults as fault
use Rattle.mst_lang.specs.declared.line.Fault.{Fault}
use Rattle.mst_lang.specs.declared.line.Fault.TheVariants.{E02}
use Rattle.mst_lang.specs.declared.line.Line.TheVariants.{Blank, Mark, Edit as edit, Query as query}
use Rattle.mst_lang.specs.declared.line.Version.{Version}
use Rattle.mst_net.specs.tables.After.{after}
use Rattle.mst_net.specs.tables.Refusals as refusal
use Rattle.mst_net.specs.tables.Tables.{Net, IsNetwork}
use Rattle.mst_net.specs.tables.declared.refusal.Refusal.{Refusal}
use Rattle.mst_net.specs.tables.declared.refusal.Refusal.TheVariants.{E99}
use Rattle.mst_questions.specs.tool.engine.Script.{ServesRead}
use Rattle.mst_questions.specs.tool.engine.Steps.{Step}
use Rattle.mst_questions.specs.tool.engine.report.State.{State, IsState}
use Rattle.mst_policy.specs.declared.policy.PolicyLine.{PolicyLine}
use Rattle.mst_questions.specs.tool.engine.print.Shape.{coded, listed, of_script}
use Rattle.mst_questions.specs.tool.engine.print.declared.form.Form.{Form}
use Rattle.mst_rows.specs.Cells.{number as number_cell, word}
use Rattle.mst_rows.specs.Rows.{Row, row_of}
use Rattle.mst_questions.specs.Ask.{IsAnswer, Told, is_refused}
use Rattle.mst_tracing.specs.Trace as trace
use Rattle.mst_tracing.specs.declared.asked.PathQuestion.{PathQuestion}
use Rattle.mst_verifying.specs.Verify as by_policy
use Rattle.mst_verifying.specs.declared.question.PolicyQuestion.{PolicyQuestion}
use Rattle.mst_questions.specs.declared.asked.Question.{Question}
use Rattle.mst_ask.specs.Requests.{request_of}
use Rattle.mst_ask.specs.declared.request.Request.{Request}
use Rattle.mst_ask.specs.declared.request.Request.TheVariants.{Script, Word, Undo, Policy, Path}

-- an edit that was made since the script was loaded: its line, and the network before it
pub record Made : Type 0 where
  pub line : List ℕ
  pub before : Net

-- what stands between two questions: the network with its mark, the policy by which it is judged, and the edits that were made since
-- the script was loaded, the newest first
pub record Standing : Type 0 where
  pub state : State
  pub policy : List PolicyLine
  pub made : List Made

-- it is a network with, if there is a mark, one of a network, and each edit was made in a network
pub record IsStanding (now : Standing) : Type 0 where
  pub state : IsState now.state
  pub made : AllByRecursion (λ m. IsNetwork m.before) now.made

-- what a question does: what stands after it, the text that it prints, whether it is refused, for want of memory or else, and
-- whether it tells of something that differs
pub record Turn : Type 0 where
  pub standing : Standing
  pub text : List ℕ
  pub refused : Bool
  pub lacking : Bool
  pub differs : Bool

-- ---- the end of an answer
-- `done STATUS`
abbrev pub done_row : ℕ → Row
done_row status = row_of (kind.Ask Done) (number_cell status ∷ [])

abbrev pub done : Form → ℕ → List ℕ
done form status = listed form (done_row status ∷ [])

-- 3 for want of memory, else 1 where it was refused or something differs, else 0
abbrev pub status_by : Bool → Bool → Bool → ℕ
status_by refused lacking differs = if lacking then 3 else (if refused || differs then 1 else 0)

-- ---- turns
-- an answer, with its end
abbrev pub turned : Form → Standing → List ℕ → Bool → Bool → Bool → Turn
turned form next text refused lacking differs = record {
  standing = next;
  text = text ++ done form (status_by refused lacking differs);
  refused = refused;
  lacking = lacking;
  differs = differs;
}

-- a line that asks nothing has no answer
abbrev pub passed : Standing → Turn
passed now = record { standing = now; text = []; refused = false; lacking = false; differs = false }

-- a question that is refused changes nothing, nor does one that is refused for want of memory
abbrev pub declined : Form → ℕ → Standing → List ℕ → List ℕ → Turn
declined form number now code text = turned form now (coded (of_script form) number code text) true false false

abbrev pub starved : Form → ℕ → Standing → Turn
starved form number now = turned form now (coded (of_script form) number (refusal.code_of E99) (refusal.text_of E99)) false true false

-- what a line of a script does that makes no edit
abbrev pub stepped : Form → Standing → Step → Turn
stepped form now s = turned form (record now { state = s.state }) s.text s.refused s.lacking s.differs

-- an edit that was made in the line
abbrev pub with_edit : Standing → List ℕ → Net → Standing
with_edit now line new = record now { state = record now.state { net = new }; made = record { line = line; before = now.state.net } ∷ now.made }

-- an edit, by what it makes of the network
abbrev pub edited : Form → ℕ → Standing → List ℕ → Result Net Refusal → Turn
edited form number now line (Err r) = declined form number now (refusal.code_of r) (refusal.text_of r)
edited form number now line (Ok new) = turned form (with_edit now line new) [] false false false

-- the answer to a word of the program
abbrev pub answered : Form → Standing → Told → List ℕ → Turn
answered form now told text = turned form now text (not (told.refused == 0)) false (not (told.differing == 0))

-- the answer to `verify` and to `sweep risks`, by what is counted of the policy
abbrev pub verified : Form → Standing → by_policy.Told → List ℕ → Turn
verified form now told text = turned form now text (not (told.refused == 0)) false (not (told.telling == 0))

-- the answer to `path`
abbrev pub traced : Form → Standing → trace.Told → List ℕ → Turn
traced form now told text = turned form now text (not (told.refused == 0)) false (not (told.differing == 0))

-- what stood before the last so many edits, if so many were made: each is taken back in its turn, the newest first, and the
-- network is then the one before it. The mark stays
abbrev pub back : ℕ → Net → List Made → Option (Net × List Made)
back zero net made = Some (net, made)
back (suc count) net [] = None
back (suc count) net (m ∷ made) = back count m.before made

-- `undone LINE`, for each edit that was taken back
abbrev pub undone_row : Made → Row
undone_row m = row_of (kind.Ask Undone) (word m.line ∷ [])

abbrev pub undone_rows : ℕ → List Made → List Row
undone_rows count made = map undone_row (take count made)

abbrev pub undone : Form → ℕ → ℕ → Standing → Option (Net × List Made) → Turn
undone form number count now None = declined form number now (fault.code_of E02) (fault.text_of E02)
undone form number count now (Some was) = turned form (record now { state = record now.state { net = was.0 }; made = was.1 }) (listed form (undone_rows count now.made)) false false false

-- ---- what a question does
-- for want of memory an edit isn't made that may be, nor is one taken back that may be
abbrev pub OrStarved : Form → ℕ → Standing → Type 0 → Turn → Turn → Type 0
OrStarved form number now May done t = (t ≡ done) ⊎ (May × (t ≡ starved form number now))

-- what a word of the program is answered, of the network as it stands
abbrev pub Tells : Form → ℕ → Standing → Question → Turn → Type 0
Tells form number now question t = (told : Told) × (text : List ℕ) × IsAnswer form now.state.net question told text × (t ≡ answered form now told text)

-- what `verify` and `sweep risks` are answered: whether the network as it stands does what the policy promises, and what its risks do to it
abbrev pub TellsPolicy : Form → Standing → PolicyQuestion → Turn → Type 0
TellsPolicy form now question t = (told : by_policy.Told) × (text : List ℕ) × by_policy.TellsAnswer form question now.state.net now.policy told text × (t ≡ verified form now told text)

-- what `path` is answered, of the network as it stands
abbrev pub TellsPath : Form → Standing → PathQuestion → Turn → Type 0
TellsPath form now question t = (told : trace.Told) × (text : List ℕ) × trace.IsAnswer form now.state.net question told text × (t ≡ traced form now told text)

-- What the line of this number does, which asks this. What refuses it comes first and takes no memory: an edit and what takes edits back are
-- refused so whatever is in the way, and a word of the program where the tables of the network tell it
abbrev pub Asks : Form → ℕ → Standing → List ℕ → Result Request Fault → Turn → Type 0
Asks form number now line (Err f) t = t ≡ declined form number now (fault.code_of f) (fault.text_of f)
Asks form number now line (Ok (Script Blank)) t = t ≡ passed now
Asks form number now line (Ok (Script Mark)) t = (s : Step) × ServesRead (of_script form) number now.state (Ok Mark) s × (t ≡ stepped form now s)
Asks form number now line (Ok (Script (query q))) t = (s : Step) × ServesRead (of_script form) number now.state (Ok (query q)) s × (t ≡ stepped form now s)
Asks form number now line (Ok (Script (edit e))) t = OrStarved form number now (IsOk (after e now.state.net)) (edited form number now line (after e now.state.net)) t
Asks form number now line (Ok (Word question)) t = Tells form number now question t ⊎ ((is_refused now.state.net question ≡ false) × (t ≡ starved form number now))
Asks form number now line (Ok (Undo count)) t = OrStarved form number now (IsSome (back count now.state.net now.made)) (undone form number count now (back count now.state.net now.made)) t
Asks form number now line (Ok (Policy question)) t = TellsPolicy form now question t ⊎ (t ≡ starved form number now)
Asks form number now line (Ok (Path question)) t = TellsPath form now question t ⊎ ((trace.is_refused now.state.net question ≡ false) × (t ≡ starved form number now))

abbrev pub AsksLine : Form → Version → ℕ → Standing → List ℕ → Turn → Type 0
AsksLine form version number now line t = Asks form number now line (request_of version line) t

-- the lines, the first of this number, do these turns one after another
unfoldable pub AsksBy : Form → Version → ℕ → Standing → List (List ℕ) → List Turn → Type 0
AsksBy form version number now [] [] = Unit {0}
AsksBy form version number now [] (t ∷ turns) = ⊥
AsksBy form version number now (line ∷ lines) [] = ⊥
AsksBy form version number now (line ∷ lines) (t ∷ turns) = AsksLine form version number now line t × AsksBy form version (number + 1) t.standing lines turns

-- what the turns leave, what they print, and how many are refused, for want of memory or else, and tell of something that differs
abbrev pub left_after : Standing → List Turn → Standing
left_after now [] = now
left_after now (t ∷ turns) = left_after t.standing turns

-- the lines of the edits that stand, in the order in which they were made
abbrev pub edits_of : Standing → List (List ℕ)
edits_of now = reverse (map (λ m. m.line) now.made)

abbrev pub answers_of : List Turn → List ℕ
answers_of = flat_map (λ t. t.text)

abbrev pub refusals_of : List Turn → ℕ
refusals_of = count_by (λ t. t.refused)

abbrev pub lacks_of : List Turn → ℕ
lacks_of = count_by (λ t. t.lacking)

abbrev pub lacking_of : List Turn → List Bool
lacking_of = map (λ t. t.lacking)

abbrev pub differing_of : List Turn → ℕ
differing_of = count_by (λ t. t.differs)
