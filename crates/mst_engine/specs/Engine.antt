-- What is kept from line to line.
use Rattle.std.specs.Prelude.{◌≡◌, ℕ, ◌+◌, ◌≤◌, Bool, true, false, List, [], ◌∷◌, Option, Some, None, if◌then◌else◌}
use Rattle.mst_report.specs.State.{State}
use Rattle.mst_report.specs.Planned.{planned_state}
use Rattle.mst_lang.specs.Faults as fault
use Rattle.mst_lang.specs.declared.line.Version.{Version}
use Rattle.mst_net.specs.tables.Refusals as refusal
use Rattle.mst_net.specs.tables.declared.refusal.Refusal.TheVariants.{E99}
use Rattle.mst_bpdu.specs.CaptureText.{fault_row}
use Rattle.mst_bpdu.specs.declared.fault.BpduFault.TheVariants.{B99}
use Rattle.mst_engine.specs.Captures.{ServesCapture, Compares}
use Rattle.mst_engine.specs.Script.{Serves, Loads, version_of}
use Rattle.mst_print.specs.Shape.{of_script, coded, listed}
use Rattle.mst_engine.specs.Steps.{Step, RunsBy}
use Rattle.mst_io.specs.declared.outcome.Outcome.{Outcome}
use Rattle.mst_engine.specs.declared.engine.Engine.{Engine}
use Rattle.mst_engine.specs.declared.engine.Input.{Input}
use Rattle.mst_engine.specs.declared.engine.Input.TheVariants.{Script, Network, Captures}
use Rattle.mst_engine.specs.declared.engine.Reply.{Reply}
use Rattle.mst_engine.specs.declared.engine.Reply.TheVariants.{Silent, Text, Unread, Refused, Starved, Differing, Faulty, Uncompared}
use Rattle.mst_print.specs.declared.form.Form.{Form}
use Rattle.mst_print.specs.declared.form.Shape.{Shape}

-- what refusals and answers are printed as. No capture is refused as a line of a script is
abbrev pub shape_of : Input → Shape
shape_of (Script form) = of_script form
shape_of (Network shape) = shape
shape_of (Captures form) = of_script form

-- the version of a script whose next lines are these, where it is known already, or else the first of them says it
abbrev pub version_from : Option Version → List (List ℕ) → Version
version_from (Some version) lines = version
version_from None lines = version_of lines

-- what is known of a script's version after a line. Captures have none
abbrev pub known_after : Input → Option Version → List ℕ → Option Version
known_after (Script form) known line = Some (version_from known (line ∷ []))
known_after (Network shape) known line = Some (version_from known (line ∷ []))
known_after (Captures form) known line = known

-- what the next line of an input does, where this is known of its version
abbrev pub does : Input → Option Version → ℕ → State → List ℕ → Step → Type 0
does (Script form) known number now line s = Serves form (version_from known (line ∷ [])) number now line s
does (Network shape) known number now line s = Loads shape (version_from known (line ∷ [])) number now line s
does (Captures form) known number now line s = ServesCapture form number now line s

-- the next lines of an input do these steps one after another
abbrev pub RunsOn : Input → Option Version → ℕ → State → List (List ℕ) → List Step → Type 0
RunsOn (Script form) known number now lines steps = RunsBy (Serves form (version_from known lines)) number now lines steps
RunsOn (Network shape) known number now lines steps = RunsBy (Loads shape (version_from known lines)) number now lines steps
RunsOn (Captures form) known number now lines steps = Compares form number now lines steps

-- captures are compared with a settled plan
abbrev pub IsReady : Input → Engine → Type 0
IsReady input e = (form : Form) → input ≡ Captures form → e.planner.is_settled ≡ true

-- the state, what is known of the version, the number of the next line, how many lines were refused, how many
-- messages differ, and how many lines were answered
pub record Tally : Type 0 where
  pub state : State
  pub version : Option Version
  pub number : ℕ
  pub refused : ℕ
  pub memory : ℕ
  pub differing : ℕ
  pub answered : ℕ

abbrev pub tally_of : Engine → Tally
tally_of e = record { state = planned_state e.planner; version = e.version; number = e.number; refused = e.refused; memory = e.memory; differing = e.differing; answered = e.answered }

-- no more lines are counted than there were
pub record IsCounted (t : Tally) : Type 0 where
  pub refused : t.refused ≤ t.number
  pub memory : t.memory ≤ t.number
  pub differing : t.differing ≤ t.number
  pub answered : t.answered ≤ t.number

-- where an input begins, in this state
abbrev pub begun : State → Tally
begun now = record { state = now; version = None; number = 1; refused = 0; memory = 0; differing = 0; answered = 0 }

-- what is counted of a whole input
abbrev pub outcome_of : Tally → Outcome
outcome_of t = record { refused = t.refused; memory = t.memory; differing = t.differing }

-- after a line, which does this step
abbrev pub tallied : Input → Tally → List ℕ → Step → Tally
tallied input t line s = record {
  state = s.state;
  version = known_after input t.version line;
  number = t.number + 1;
  refused = t.refused + (if s.refused then 1 else 0);
  memory = t.memory + (if s.lacking then 1 else 0);
  differing = t.differing + (if s.differs then 1 else 0);
  answered = t.answered + (if s.answers then 1 else 0);
}

-- what a reply prints
abbrev pub reply_text : Shape → ℕ → Reply → List ℕ
reply_text shape number Silent = []
reply_text shape number (Text text) = text.items
reply_text shape number (Unread f) = coded shape number (fault.code_of f) (fault.text_of f)
reply_text shape number (Refused r) = coded shape number (refusal.code_of r) (refusal.text_of r)
reply_text shape number Starved = coded shape number (refusal.code_of E99) (refusal.text_of E99)
reply_text shape number (Differing text) = text.items
reply_text shape number (Faulty fault) = listed shape.form (fault_row number fault ∷ [])
reply_text shape number Uncompared = listed shape.form (fault_row number B99 ∷ [])

abbrev pub is_refusal : Reply → Bool
is_refusal Silent = false
is_refusal (Text text) = false
is_refusal (Unread f) = true
is_refusal (Refused r) = true
is_refusal Starved = false
is_refusal (Differing text) = false
is_refusal (Faulty fault) = true
is_refusal Uncompared = false

abbrev pub is_starved : Reply → Bool
is_starved Silent = false
is_starved (Text text) = false
is_starved (Unread f) = false
is_starved (Refused r) = false
is_starved Starved = true
is_starved (Differing text) = false
is_starved (Faulty fault) = false
is_starved Uncompared = true

abbrev pub is_difference : Reply → Bool
is_difference Silent = false
is_difference (Text text) = false
is_difference (Unread f) = false
is_difference (Refused r) = false
is_difference Starved = false
is_difference (Differing text) = true
is_difference (Faulty fault) = false
is_difference Uncompared = false

abbrev pub is_answer : Reply → Bool
is_answer Silent = false
is_answer (Text text) = true
is_answer (Unread f) = false
is_answer (Refused r) = false
is_answer Starved = false
is_answer (Differing text) = false
is_answer (Faulty fault) = false
is_answer Uncompared = false

-- the step that gives this state and this reply
abbrev pub replied : Shape → ℕ → State → Reply → Step
replied shape number new reply = record {
  state = new;
  text = reply_text shape number reply;
  refused = is_refusal reply;
  lacking = is_starved reply;
  differs = is_difference reply;
  answers = is_answer reply;
}
