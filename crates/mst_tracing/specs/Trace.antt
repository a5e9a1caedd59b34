-- What asking the network that a script leaves for a path promises, where it prints in this form.
use Rattle.std.specs.Prelude.{◌≡◌, ◌+◌, ◌++◌, ℕ, Bool, true, List, Option, None, Some, is_some, if◌then◌else◌}
use Rattle.mst_drive.specs.Words.{Telling}
use Rattle.mst_io.specs.Written.{Reads}
use Rattle.mst_io.specs.declared.outcome.Outcome.{Outcome}
use Rattle.mst_kinds.specs.declared.refusal_line.RefusalLine.TheVariants as refusal_line
use Rattle.mst_lang.specs.Faults as fault
use Rattle.mst_lang.specs.Lines.{lines_of}
use Rattle.mst_net.specs.tables.Refusals as refusal
use Rattle.mst_net.specs.tables.Tables.{Net}
use Rattle.mst_net.specs.tables.declared.refusal.Refusal.{Refusal}
use Rattle.mst_tool.specs.Load.{LoadsEnded, LoadsScript}
use Rattle.mst_tool.specs.Shown.{IsShown}
use Rattle.mst_tool.specs.engine.Script.{LoadsAll}
use Rattle.mst_tool.specs.engine.Steps.{Step, left_by, texts_of, refusals_of, lacks_of, lacking_of}
use Rattle.mst_tool.specs.engine.print.Shape.{of_script, unanswered}
use Rattle.mst_tool.specs.engine.print.declared.form.Form.{Form}
use Rattle.mst_tool.specs.engine.report.State.{empty_state}
use Rattle.mst_tracing.specs.Ends.{untraced_of}
use Rattle.mst_tracing.specs.Tracing.{Traces, asked_row}
use Rattle.mst_tracing.specs.declared.asked.Asked.{Asked}
use Rattle.mst_tracing.specs.declared.asked.PathQuestion.{PathQuestion}
use Rattle.mst_tracing.specs.declared.asked.PathQuestion.TheVariants as question
use Rattle.mst_tracing.specs.declared.traces.PathAnswer.{PathAnswer}
use Rattle.mst_tracing.specs.declared.traces.PathAnswer.TheVariants as answer

-- what an answer counts: as a refused line, and as one that tells of a difference
pub record Told : Type 0 where
  pub refused : ℕ
  pub differing : ℕ

-- a path, which differs where there is none, now or after some failure; and one that wasn't told
abbrev pub given : Bool → Told
given is_broken = record { refused = 0; differing = if is_broken then 1 else 0 }

abbrev pub not_given : Told
not_given = record { refused = 1; differing = 0 }

abbrev pub untraced_in : Form → List ℕ → List ℕ → List ℕ
untraced_in form = unanswered form refusal_line.Path

-- what is printed of a path, by whether something is in the way: that, in a line, or its rows
abbrev pub TellsPath : Form → Net → Asked → Option Refusal → Told → List ℕ → Type 0
TellsPath form net asked (Some why) told text = (told ≡ not_given) × (text ≡ untraced_in form (refusal.code_of why) (refusal.text_of why))
TellsPath form net asked None told text = (is_broken : Bool) × IsShown form (asked_row asked) (Traces net asked is_broken) text × (told ≡ given is_broken)

-- what is printed of what was asked of a network, and what that counts. Words that aren't in their forms come before all else
abbrev pub IsAnswer : Form → Net → PathQuestion → Told → List ℕ → Type 0
IsAnswer form net (question.Unread f) told text = (told ≡ not_given) × (text ≡ untraced_in form (fault.code_of f) (fault.text_of f))
IsAnswer form net (question.Path asked) told text = TellsPath form net asked (untraced_of net asked.trace) told text

-- what is refused whatever memory there is
abbrev pub is_refused : Net → PathQuestion → Bool
is_refused net (question.Unread f) = true
is_refused net (question.Path asked) = is_some (untraced_of net asked.trace)

-- what is counted of a script with what is asked of its network
abbrev pub counted_with : Outcome → Told → Outcome
counted_with script told = record script { refused = script.refused + told.refused; differing = script.differing + told.differing }

-- The edits of the script's lines were served, from the empty state on, and this is what they print, and after it the answer of the network
-- that they leave. The outcome counts the lines that were refused, as a run's does, and what the answer counts. The script has no other
-- steps that lack memory at the same lines, and the network no other answer
pub record AsksPath (form : Form) (question : PathQuestion) (reads : Option (List ℕ)) (text : List ℕ) (outcome : Outcome) : Type 0 where
  pub script : List ℕ
  pub steps : List Step
  pub told : Told
  pub answer : List ℕ
  pub read : Reads reads script
  pub loads : LoadsAll (of_script form) (lines_of script) steps
  pub answers : IsAnswer form (left_by empty_state steps).net question told answer
  pub printed : text ≡ texts_of steps ++ answer
  pub memory : outcome.memory ≡ lacks_of steps
  pub refused : outcome.refused ≡ refusals_of steps + told.refused
  pub differing : outcome.differing ≡ told.differing
  pub only : (others : List Step) → LoadsAll (of_script form) (lines_of script) others → lacking_of others ≡ lacking_of steps → others ≡ steps
  pub only_answer : (also : Told) (other : List ℕ) → IsAnswer form (left_by empty_state steps).net question also other → (also ≡ told) × (other ≡ answer)

-- what asking a script's network for a path tells
abbrev pub tracing : Form → PathQuestion → Telling
tracing form question = record {
  tells = λ given text outcome. AsksPath form question given.first text outcome;
  begins = λ given text. LoadsScript (of_script form) given.first text;
  cut = λ given left text. LoadsEnded (of_script form) given.first left.first text;
  starved = λ given text. LoadsScript (of_script form) given.first text;
  told_first = λ given. LoadsEnded (of_script form) given.first;
  told_second = λ given left text. ⊥;
  told_third = λ given left text. ⊥;
}

-- what an answer prints, and what it counts
abbrev pub answer_text : Form → PathAnswer → List ℕ
answer_text form (answer.Told text is_broken) = text.items
answer_text form (answer.Unread f) = untraced_in form (fault.code_of f) (fault.text_of f)
answer_text form (answer.Refused why) = untraced_in form (refusal.code_of why) (refusal.text_of why)

abbrev pub told_of : PathAnswer → Told
told_of (answer.Told text is_broken) = given is_broken
told_of (answer.Unread f) = not_given
told_of (answer.Refused why) = not_given
