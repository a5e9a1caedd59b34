-- What asking the network of a script by a policy promises, where it prints in this form: whether it keeps the policy, or what its risks do.
use Rattle.std.specs.Prelude.{◌≡◌, ◌+◌, ◌++◌, ◌==◌, ℕ, List, Option, if◌then◌else◌, []}
use Rattle.mst_drive.specs.Words.{Telling}
use Rattle.mst_lang.specs.Lines.{lines_of}
use Rattle.mst_policy.specs.declared.policy.PolicyLine.{PolicyLine}
use Rattle.mst_tables.specs.Tables.{Net}
use Rattle.mst_tool.specs.engine.report.State.{empty_state}
use Rattle.mst_verdict.specs.Verifying as network
use Rattle.mst_verdict.specs.telling.Verified.{Counts}
use Rattle.mst_verdict.specs.Risking.{TellsRisks}
use Rattle.mst_verdict.specs.declared.risking.RiskCounts.{RiskCounts}
use Rattle.mst_tool.specs.engine.Script.{LoadsAll}
use Rattle.mst_tool.specs.engine.Steps.{Step, left_by, texts_of, refusals_of, lacks_of, lacking_of}
use Rattle.mst_io.specs.Written.{Reads}
use Rattle.mst_io.specs.declared.outcome.Outcome.{Outcome}
use Rattle.mst_tool.specs.engine.print.Shape.{of_script}
use Rattle.mst_tool.specs.engine.print.declared.form.Form.{Form}
use Rattle.mst_tool.specs.Load.{LoadsEnded, LoadsOrEnded, LoadsScript}
use Rattle.mst_inputs.specs.Lines.{AreLines}
use Rattle.mst_tool.specs.Shown.{IsShown, question_row}
use Rattle.mst_verifying.specs.declared.question.PolicyQuestion.{PolicyQuestion}
use Rattle.mst_verifying.specs.declared.question.PolicyQuestion.TheVariants as question
use Rattle.mst_verifying.specs.declared.verifies.Verification.{Verification}
use Rattle.mst_kinds.specs.declared.query.Query.TheVariants.{SweepRisks, Verify}
use Rattle.mst_rows.specs.Rows.{Row}

-- what an answer counts: how many lines of the policy are refused, and how many tell of something, be it promises that aren't kept or risks that cut some
-- VID
pub record Told : Type 0 where
  pub refused : ℕ
  pub telling : ℕ

-- that of an answer as it is kept
abbrev pub told_in : Verification → Told
told_in v = record { refused = v.refused; telling = v.telling }

abbrev pub told_of_promises : Counts → Told
told_of_promises counts = record { refused = counts.refused; telling = counts.failing }

abbrev pub told_of_risks : RiskCounts → Told
told_of_risks counts = record { refused = counts.refused; telling = counts.cuts }

-- 1 where something is told, else 0
abbrev pub differing_by : Told → ℕ
differing_by told = if told.telling == 0 then 0 else 1

-- what is counted of a script and of a policy
abbrev pub counted_with : Outcome → Told → Outcome
counted_with script told = record { refused = script.refused + told.refused; memory = script.memory; differing = script.differing + differing_by told }

-- the question as a row, in front of its rows
abbrev pub verify_row : Row
verify_row = question_row Verify []

-- what tells whether a network does what these lines promise
abbrev pub TellsVerification : Form → Net → List PolicyLine → Counts → List ℕ → Type 0
TellsVerification form net lines counts = IsShown form verify_row (network.Verifies net lines counts)

-- and of the risks
abbrev pub risks_row : Row
risks_row = question_row SweepRisks []

abbrev pub TellsOfRisks : Form → Net → List PolicyLine → RiskCounts → List ℕ → Type 0
TellsOfRisks form net lines counts = IsShown form risks_row (TellsRisks net lines counts)

-- what answers either question
abbrev pub TellsAnswer : Form → PolicyQuestion → Net → List PolicyLine → Told → List ℕ → Type 0
TellsAnswer form question.Promises net lines told text = (counts : Counts) × TellsVerification form net lines counts text × (told ≡ told_of_promises counts)
TellsAnswer form question.Risks net lines told text = (counts : RiskCounts) × TellsOfRisks form net lines counts text × (told ≡ told_of_risks counts)

-- The edits of all of the script's lines were served, and this is what they print, and after it the answer of the network that they leave. The
-- outcome counts the lines of both that were refused, and 1 where the answer tells of something. The script has no
-- other steps that lack memory at the same lines
pub record Verifies (form : Form) (question : PolicyQuestion) (scripts policies : Option (List ℕ)) (text : List ℕ) (outcome : Outcome) : Type 0 where
  pub script : List ℕ
  pub steps : List Step
  pub lines : List PolicyLine
  pub told : Told
  pub answer : List ℕ
  pub read : Reads scripts script
  pub loads : LoadsAll (of_script form) (lines_of script) steps
  pub are_lines : AreLines policies lines
  pub tells : TellsAnswer form question (left_by empty_state steps).net lines told answer
  pub printed : text ≡ texts_of steps ++ answer
  pub memory : outcome.memory ≡ lacks_of steps
  pub refused : outcome.refused ≡ refusals_of steps + told.refused
  pub differing : outcome.differing ≡ differing_by told
  pub only : (others : List Step) → LoadsAll (of_script form) (lines_of script) others → lacking_of others ≡ lacking_of steps → others ≡ steps

-- what this tells of a script and a policy
abbrev pub verifying : Form → PolicyQuestion → Telling
verifying form question = record {
  tells = λ given text outcome. Verifies form question given.first given.second text outcome;
  begins = λ given text. LoadsScript (of_script form) given.first text;
  cut = λ given left text. LoadsOrEnded (of_script form) given.first left.first text;
  starved = λ given text. LoadsScript (of_script form) given.first text;
  told_first = λ given. LoadsEnded (of_script form) given.first;
  told_second = λ given left. LoadsScript (of_script form) given.first;
  told_third = λ given left text. ⊥;
}
