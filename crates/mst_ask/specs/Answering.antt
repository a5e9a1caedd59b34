-- What serving the lines of a script and questions promises.
use Rattle.std.specs.Prelude.{◌≡◌, ◌⊎◌, ◌≤◌, ◌<◌, ◌+◌, ◌*◌, ℕ, true, false, length, List, [], Option}
use Rattle.std.specs.Io.KnownBytes.{Consumes, IsAtEnd}
use Rattle.mst_io.specs.Devices.{Told, IsCut, IsRead, Works}
use Rattle.mst_io.specs.Written.{Reads}
use Rattle.mst_io.specs.declared.outcome.Outcome.{Outcome}
use Rattle.mst_lang.specs.Lines.{lines_of, ended_lines}
use Rattle.mst_questions.specs.tool.engine.Engine.{version_from}
use Rattle.mst_questions.specs.tool.engine.Script.{LoadsAll, version_of}
use Rattle.mst_questions.specs.tool.engine.Steps as steps
use Rattle.mst_questions.specs.tool.engine.Steps.{Step, left_by, texts_of}
use Rattle.mst_questions.specs.tool.engine.declared.engine.Engine.{Engine}
use Rattle.mst_questions.specs.tool.engine.report.Planned.{planned_state}
use Rattle.mst_questions.specs.tool.engine.report.State.{empty_state}
use Rattle.mst_questions.specs.tool.engine.print.Shape.{of_script}
use Rattle.mst_questions.specs.tool.engine.print.declared.form.Form.{Form}
use Rattle.mst_ask.specs.Kept.{standing_of}
use Rattle.mst_ask.specs.Standing.{Turn, AsksBy, answers_of, differing_of, lacks_of, refusals_of}
use Rattle.mst_ask.specs.declared.script.Script.{Script}
use Rattle.mst_ask.specs.declared.standing.Standing.{Standing}

-- ---- the script
-- It was read to its end, or was cut: the source failed, or all turns were used
pub record IsScript (turns : ℕ) (reads left : Option (List ℕ)) (old new : Told) (script : Script) : Type 0 where
  pub consumed : Consumes reads left script.bytes.items
  pub whole : script.is_whole ≡ true → IsAtEnd left × IsRead old new
  pub cut : script.is_whole ≡ false → IsCut turns old new
  pub few : length script.bytes.items ≤ 4096 * turns

-- for want of memory it isn't read on, before all turns were used
pub record IsLeft (turns : ℕ) (old new : Told) : Type 0 where
  pub some : 0 < turns
  pub works : Works old new
  pub few : new.calls < old.calls + turns

-- some of it was read, or all
abbrev pub IsBegun : Script → Type 0
IsBegun script = (0 < length script.bytes.items) ⊎ (script.is_whole ≡ true)

-- the lines were loaded, and this is what they print. They were counted, and the version is known
pub record IsLoaded (form : Form) (lines : List (List ℕ)) (text : List ℕ) (engine : Engine) : Type 0 where
  pub loads : List Step
  pub loaded : LoadsAll (of_script form) lines loads
  pub printed : text ≡ texts_of loads
  pub state : planned_state engine.planner ≡ left_by empty_state loads
  pub refused : engine.refused ≡ steps.refusals_of loads
  pub memory : engine.memory ≡ steps.lacks_of loads
  pub version : version_from engine.version [] ≡ version_of lines

-- loading the lines prints this
pub record LoadsLines (form : Form) (lines : List (List ℕ)) (text : List ℕ) : Type 0 where
  pub loads : List Step
  pub loaded : LoadsAll (of_script form) lines loads
  pub printed : text ≡ texts_of loads

-- ---- the questions
-- all were answered, from what stood, and this is what they print. They were counted
pub record Answered (kept : Standing) (reads : Option (List ℕ)) (text : List ℕ) (outcome : Outcome) : Type 0 where
  pub bytes : List ℕ
  pub turns : List Turn
  pub read : Reads reads bytes
  pub asks : AsksBy kept.form kept.version 1 (standing_of kept) (lines_of bytes) turns
  pub printed : text ≡ answers_of turns
  pub memory : outcome.memory ≡ lacks_of turns
  pub refused : outcome.refused ≡ refusals_of turns
  pub differing : outcome.differing ≡ differing_of turns

-- what they print, whatever was counted
abbrev pub PrintsAnswers : Standing → Option (List ℕ) → List ℕ → Type 0
PrintsAnswers kept reads text = (outcome : Outcome) × Answered kept reads text outcome

-- those that were complete in what was read were answered, and this is the whole of what they print
pub record AnsweredEnded (kept : Standing) (reads left : Option (List ℕ)) (text : List ℕ) : Type 0 where
  pub read : List ℕ
  pub turns : List Turn
  pub consumed : Consumes reads left read
  pub asks : AsksBy kept.form kept.version 1 (standing_of kept) (ended_lines read) turns
  pub printed : text ≡ answers_of turns
