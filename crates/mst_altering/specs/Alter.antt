-- What telling what the steps of a change do to the network of a script promises, where it prints in this form.
use Rattle.std.specs.Prelude.{◌≡◌, ◌+◌, ◌++◌, ◌==◌, ◌&&◌, ℕ, Bool, true, false, List, Option, None, Some, if◌then◌else◌, []}
use Rattle.mst_drive.specs.Words.{Telling}
use Rattle.mst_change.specs.Reading.{LineRead}
use Rattle.mst_lang.specs.Lines.{lines_of}
use Rattle.mst_policy.specs.declared.policy.PolicyLine.{PolicyLine}
use Rattle.mst_tables.specs.Tables.{Net}
use Rattle.mst_tool.specs.engine.report.State.{empty_state}
use Rattle.mst_verdict.specs.Stepping as network
use Rattle.mst_verdict.specs.declared.stepping.Course.{Course}
use Rattle.mst_tool.specs.engine.Script.{LoadsAll}
use Rattle.mst_tool.specs.engine.Steps.{Step, left_by, texts_of, refusals_of, lacks_of, lacking_of}
use Rattle.mst_io.specs.Written.{Reads}
use Rattle.mst_io.specs.declared.outcome.Outcome.{Outcome}
use Rattle.mst_tool.specs.engine.print.Shape.{of_script}
use Rattle.mst_tool.specs.engine.print.declared.form.Form.{Form}
use Rattle.mst_inputs.specs.Lines.{AreLines, AreSteps}
use Rattle.mst_tool.specs.Load.{LoadsEnded, LoadsOrEnded, LoadsScript}
use Rattle.mst_tool.specs.Shown.{IsShown, question_row}
use Rattle.mst_altering.specs.declared.alters.Stepping.{Stepping}
use Rattle.mst_kinds.specs.declared.query.Query.TheVariants.{Steps}
use Rattle.mst_rows.specs.Rows.{Row}

abbrev pub course_of : Stepping → Course
course_of s = record { unread = s.unread; refused = s.refused; steps = s.steps; moving = s.moving; cutting = s.cutting; failing = s.failing; unkept = s.unkept }

-- 1 where a step cuts or breaks the policy, or the last network doesn't keep it, else 0
abbrev pub differing_by : Course → ℕ
differing_by course = if course.cutting == 0 && (course.failing == 0 && course.unkept == 0) then 0 else 1

-- the lines of a change that are refused, and those of a policy that can't be read
abbrev pub refusals_in : Course → ℕ
refusals_in course = course.refused + course.unread

-- what is counted of a script and of a change
abbrev pub counted_along : Outcome → Course → Outcome
counted_along script course = record { refused = script.refused + refusals_in course; memory = script.memory; differing = script.differing + differing_by course }

-- the policy, where it is judged
abbrev pub policy_if : Bool → List PolicyLine → Option (List PolicyLine)
policy_if true lines = Some lines
policy_if false lines = None

-- the question as a row, in front of its rows
abbrev pub steps_row : Row
steps_row = question_row Steps []

-- what tells what these steps do to a network, with the policy, if there is one
abbrev pub TellsSteps : Form → Net → List (List LineRead) → Option (List PolicyLine) → Course → List ℕ → Type 0
TellsSteps form net steps policy course = IsShown form steps_row (network.Steps net steps policy course)

-- the policy that its reader gives, where it is judged
abbrev pub IsJudging : Bool → Option (List ℕ) → Option (List PolicyLine) → Type 0
IsJudging judged policies policy = (lines : List PolicyLine) × AreLines policies lines × (policy ≡ policy_if judged lines)

-- The edits of all of the script's lines were served, and this is what they print, and after it what the steps of the change do to
-- the network that they leave, with the policy, where it is judged. The outcome counts the lines of all three that were refused, of the
-- policy those that can't be read, and 1 where a step cuts or breaks the policy, or the end doesn't keep it. The script has no other steps
-- that lack memory at the same lines
pub record Alters (form : Form) (judged : Bool) (scripts changes policies : Option (List ℕ)) (text : List ℕ) (outcome : Outcome) : Type 0 where
  pub script : List ℕ
  pub steps : List Step
  pub change : List (List LineRead)
  pub policy : Option (List PolicyLine)
  pub course : Course
  pub answer : List ℕ
  pub read : Reads scripts script
  pub loads : LoadsAll (of_script form) (lines_of script) steps
  pub are_steps : AreSteps changes change
  pub is_policy : IsJudging judged policies policy
  pub tells : TellsSteps form (left_by empty_state steps).net change policy course answer
  pub printed : text ≡ texts_of steps ++ answer
  pub memory : outcome.memory ≡ lacks_of steps
  pub refused : outcome.refused ≡ refusals_of steps + refusals_in course
  pub differing : outcome.differing ≡ differing_by course
  pub only : (others : List Step) → LoadsAll (of_script form) (lines_of script) others → lacking_of others ≡ lacking_of steps → others ≡ steps

-- what telling of a script, a change and a policy tells
abbrev pub altering : Form → Bool → Telling
altering form judged = record {
  tells = λ given text outcome. Alters form judged given.first given.second given.third text outcome;
  begins = λ given text. LoadsScript (of_script form) given.first text;
  cut = λ given left text. LoadsOrEnded (of_script form) given.first left.first text;
  starved = λ given text. LoadsScript (of_script form) given.first text;
  told_first = λ given. LoadsEnded (of_script form) given.first;
  told_second = λ given left. LoadsScript (of_script form) given.first;
  told_third = λ given left. LoadsScript (of_script form) given.first;
}
