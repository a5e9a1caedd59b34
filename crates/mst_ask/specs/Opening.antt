-- What loading the script promises, before the first question.
use Rattle.std.specs.Prelude.{◌≡◌, ◌⊎◌, ◌<◌, ◌^◌, ℕ, true, false, List, [], Option, Some, None}
use Rattle.mst_drive.specs.Words.{Wrote, WroteFront}
use Rattle.mst_lang.specs.Lines.{lines_of}
use Rattle.mst_questions.specs.tool.engine.Script.{LoadsAll, version_of}
use Rattle.mst_questions.specs.tool.engine.Steps.{Step, lacks_of, refusals_of}
use Rattle.mst_io.specs.Devices.{Told, Works, IsStopped}
use Rattle.mst_io.specs.declared.outcome.RunFault.{RunFault}
use Rattle.mst_io.specs.declared.outcome.RunFault.TheVariants.{Read, Write, Memory}
use Rattle.mst_policy.specs.declared.policy.PolicyLine.{PolicyLine}
use Rattle.mst_questions.specs.tool.engine.print.Shape.{of_script}
use Rattle.mst_questions.specs.tool.engine.print.declared.form.Form.{Form}
use Rattle.mst_questions.specs.tool.Load.{LoadsScript}
use Rattle.mst_ask.specs.Answering.{IsBegun, LoadsLines}
use Rattle.mst_ask.specs.Asking.{Begins, loaded_by, opening}
use Rattle.mst_ask.specs.Kept.{IsKept, standing_of}
use Rattle.mst_ask.specs.Lines.{lines_in}
use Rattle.mst_ask.specs.Questions.{none_counted}
use Rattle.mst_ask.specs.declared.questions.Asking.{Asking}
use Rattle.mst_ask.specs.declared.script.Script.{Script}

-- ---- what was read of it
-- the whole script can be loaded so that no line lacks memory, and this is what it prints then, and the end of that
pub record PrintsWhole (form : Form) (script text : List ℕ) : Type 0 where
  pub loads : List Step
  pub loaded : LoadsAll (of_script form) (lines_of script) loads
  pub full : lacks_of loads ≡ 0
  pub printed : text ≡ opening form loads

-- what stands where it was loaded by these steps, with this policy. Nothing was asked of it
pub record IsOpened (form : Form) (script : List ℕ) (loads : List Step) (policy : List PolicyLine) (asking : Asking) : Type 0 where
  pub kept : IsKept asking.standing
  pub prints : asking.standing.form ≡ form
  pub version : asking.standing.version ≡ version_of (lines_of script)
  pub standing : standing_of asking.standing ≡ loaded_by loads policy
  pub begins : asking.outcome ≡ none_counted
  pub refused : asking.loaded ≡ refusals_of loads
  pub few : asking.loaded < 2 ^ 60

-- the whole of it was loaded, and what it prints was written
abbrev pub OpensWhole : Form → Script → Option (List ℕ) → Option (List ℕ) → Asking → Type 0
OpensWhole form script written now asking =
    (script.is_whole ≡ true) × Wrote written now (λ text. (whole : PrintsWhole form script.bytes.items text) × IsOpened form script.bytes.items whole.loads [] asking)

-- why it wasn't: the reader or the writer failed, or a line lacked memory
abbrev pub OpensNot : Form → Script → Option (List ℕ) → Option (List ℕ) → RunFault → Type 0
OpensNot form script written now Read = (script.is_whole ≡ false) × Wrote written now (LoadsLines form (lines_in script.is_whole script.bytes.items))
OpensNot form script written now Write =
    IsBegun script × WroteFront written now (λ text. LoadsLines form (lines_in script.is_whole script.bytes.items) text ⊎ ((script.is_whole ≡ true) × PrintsWhole form script.bytes.items text))
OpensNot form script written now Memory = (script.is_whole ≡ true) × Wrote written now (LoadsLines form (lines_in script.is_whole script.bytes.items))

-- how the sink stands then
abbrev pub Leaves : Told → Told → Option RunFault → Type 0
Leaves sink now None = Works sink now
Leaves sink now (Some Read) = Works sink now
Leaves sink now (Some Write) = IsStopped sink now
Leaves sink now (Some Memory) = Works sink now

-- ---- the reader
-- the script that it gives was loaded, and this is what it prints, and the end of that
abbrev pub Opens : Form → Option (List ℕ) → Asking → List ℕ → Type 0
Opens form scripts asking text = (begins : Begins form scripts text) × IsOpened form begins.script begins.loads [] asking

-- what was printed a front of, where it wasn't: what the lines print, or the end of that with it
abbrev pub MayOpen : Form → Option (List ℕ) → List ℕ → Type 0
MayOpen form scripts text = LoadsScript (of_script form) scripts text ⊎ Begins form scripts text
