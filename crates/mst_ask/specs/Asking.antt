-- What a standing planner tells of a script and of questions of its network, where it prints in this form.
use Rattle.std.specs.Prelude.{◌≡◌, ◌+◌, ◌++◌, ◌⊎◌, ◌==◌, not, false, ℕ, List, [], Option}
use Rattle.std.specs.Io.KnownBytes.{Consumes}
use Rattle.mst_drive.specs.Words.{Telling, Unwritten}
use Rattle.mst_lang.specs.Lines.{lines_of, ended_lines}
use Rattle.mst_questions.specs.tool.engine.Script.{LoadsAll, version_of}
use Rattle.mst_questions.specs.tool.engine.Steps as steps
use Rattle.mst_questions.specs.tool.engine.Steps.{Step, left_by, texts_of}
use Rattle.mst_questions.specs.tool.engine.report.State.{empty_state}
use Rattle.mst_io.specs.Written.{Reads}
use Rattle.mst_io.specs.declared.outcome.Outcome.{Outcome}
use Rattle.mst_policy.specs.declared.policy.PolicyLine.{PolicyLine}
use Rattle.mst_questions.specs.tool.engine.print.Shape.{of_script}
use Rattle.mst_questions.specs.tool.engine.print.declared.form.Form.{Form}
use Rattle.mst_verifying.specs.inputs.Lines.{AreLines}
use Rattle.mst_questions.specs.tool.Load.{LoadsEnded, LoadsScript}
use Rattle.mst_ask.specs.Standing.{Standing, Turn, AsksBy, answers_of, differing_of, done, lacking_of, lacks_of, refusals_of, status_by}

-- what stands where a script was loaded by these steps, with a policy: no edit was made since
abbrev pub loaded_by : List Step → List PolicyLine → Standing
loaded_by loads policy = record { state = left_by empty_state loads; policy = policy; made = [] }

-- what the script's lines print, and the end of that
abbrev pub opening : Form → List Step → List ℕ
opening form loads = texts_of loads ++ done form (status_by (not (steps.refusals_of loads == 0)) false false)

-- A script that the reader gives, and what its lines do where its network is loaded: none lacks memory. The lines of the policy that
-- its reader gives. And these lines of questions, and the turns that they do, from what the script leaves on. Neither the script nor
-- these have others that lack memory at the same lines
pub record Answers (form : Form) (scripts policies : Option (List ℕ)) (asked : List (List ℕ)) : Type 0 where
  pub script : List ℕ
  pub loads : List Step
  pub policy : List PolicyLine
  pub turns : List Turn
  pub script_read : Reads scripts script
  pub loaded : LoadsAll (of_script form) (lines_of script) loads
  pub full : steps.lacks_of loads ≡ 0
  pub are_lines : AreLines policies policy
  pub answered : AsksBy form (version_of (lines_of script)) 1 (loaded_by loads policy) asked turns
  pub only_script : (others : List Step) → LoadsAll (of_script form) (lines_of script) others → steps.lacks_of others ≡ 0 → others ≡ loads
  pub only_turns : (others : List Turn) → AsksBy form (version_of (lines_of script)) 1 (loaded_by loads policy) asked others → lacking_of others ≡ lacking_of turns → others ≡ turns

-- what all of it prints
abbrev pub printed_by : {form : Form} {scripts policies : Option (List ℕ)} {asked : List (List ℕ)} → Answers form scripts policies asked → List ℕ
printed_by {form} a = opening form a.loads ++ answers_of a.turns

-- The script was loaded and all questions were answered, and this is what they print. The outcome counts the lines and the
-- questions that were refused, those that lacked memory, and those that tell of something that differs
pub record Stands (form : Form) (scripts policies questions : Option (List ℕ)) (text : List ℕ) (outcome : Outcome) : Type 0 where
  pub asked : List ℕ
  pub answers : Answers form scripts policies (lines_of asked)
  pub questions_read : Reads questions asked
  pub printed : text ≡ printed_by answers
  pub memory : outcome.memory ≡ lacks_of answers.turns
  pub refused : outcome.refused ≡ steps.refusals_of answers.loads + refusals_of answers.turns
  pub differing : outcome.differing ≡ differing_of answers.turns

-- a front of what the script's lines print
abbrev pub LoadsFront : Form → Option (List ℕ) → List ℕ → Type 0
LoadsFront form scripts text = (rest : List ℕ) × LoadsScript (of_script form) scripts (text ++ rest)

-- The script was loaded, and this is what it prints, and the end of that, and nothing else. It has no other steps of which none
-- lacks memory
pub record Begins (form : Form) (scripts : Option (List ℕ)) (text : List ℕ) : Type 0 where
  pub script : List ℕ
  pub loads : List Step
  pub script_read : Reads scripts script
  pub loaded : LoadsAll (of_script form) (lines_of script) loads
  pub full : steps.lacks_of loads ≡ 0
  pub printed : text ≡ opening form loads
  pub only_script : (others : List Step) → LoadsAll (of_script form) (lines_of script) others → steps.lacks_of others ≡ 0 → others ≡ loads

-- it was stopped for want of memory before the first question: in the script, or in the policy behind it
abbrev pub Unasked : Form → Option (List ℕ) → List ℕ → Type 0
Unasked form scripts text = LoadsFront form scripts text ⊎ Begins form scripts text

-- The reader of the questions has given these bytes, as far as it tells, and has some left. The lines that they complete were
-- answered, and this is the whole of what the script and these print, and nothing else
pub record AnswersEnded (form : Form) (scripts policies questions left : Option (List ℕ)) (text : List ℕ) : Type 0 where
  pub read : List ℕ
  pub answers : Answers form scripts policies (ended_lines read)
  pub consumed : Consumes questions left read
  pub printed : text ≡ printed_by answers

-- a reader failed: that of the script or that of the policy, so that no question was answered, or that of the questions
abbrev pub StandsEnded : Form → Option (List ℕ) → Option (List ℕ) → Option (List ℕ) → Option (List ℕ) → Option (List ℕ) → List ℕ → Type 0
StandsEnded form scripts scripts_left policies questions questions_left text =
    LoadsEnded (of_script form) scripts scripts_left text ⊎ (Begins form scripts text ⊎ AnswersEnded form scripts policies questions questions_left text)

-- What a standing planner tells of a script, of questions, and of a policy, which is its third input
abbrev pub standing : Form → Telling
standing form = record {
  tells = λ given text outcome. Stands form given.first given.third given.second text outcome;
  begins = λ given text. LoadsScript (of_script form) given.first text;
  cut = λ given left text. StandsEnded form given.first left.first given.third given.second left.second text;
  starved = λ given text. Unasked form given.first text;
  told_first = λ given. Unwritten;
  told_second = λ given. AnswersEnded form given.first given.third given.second;
  told_third = λ given left. Begins form given.first;
}
