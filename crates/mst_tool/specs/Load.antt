-- What loading the network of a script prints. A script has no other steps that lack memory at the same lines.
use Rattle.std.specs.Prelude.{◌≡◌, ◌⊎◌, ℕ, List, Option}
use Rattle.std.specs.Io.KnownBytes.{Consumes}
use Rattle.mst_lang.specs.Lines.{lines_of, ended_lines}
use Rattle.mst_engine.specs.Script.{LoadsAll}
use Rattle.mst_engine.specs.Steps.{Step, texts_of, lacking_of}
use Rattle.mst_io.specs.Written.{Reads}
use Rattle.mst_engine.specs.declared.engine.Input.{Input}
use Rattle.mst_engine.specs.declared.engine.Input.TheVariants.{Captures, Network, Script}
use Rattle.mst_engine.specs.print.declared.form.Shape.{Shape}
use Rattle.mst_tool.specs.Run.{PrintsEnded}

-- The reader has given these bytes, as far as it tells, and has these left. The edits of the lines that they complete were
-- served, from the empty state on, and this is the whole of what these print, in this shape
pub record LoadsEnded (shape : Shape) (reads left : Option (List ℕ)) (text : List ℕ) : Type 0 where
  pub read : List ℕ
  pub steps : List Step
  pub consumed : Consumes reads left read
  pub loads : LoadsAll shape (ended_lines read) steps
  pub printed : text ≡ texts_of steps
  pub only : (others : List Step) → LoadsAll shape (ended_lines read) others → lacking_of others ≡ lacking_of steps → others ≡ steps

-- the edits of all of the script's lines were served, and this is what they print
pub record LoadsScript (shape : Shape) (reads : Option (List ℕ)) (text : List ℕ) : Type 0 where
  pub script : List ℕ
  pub steps : List Step
  pub read : Reads reads script
  pub loads : LoadsAll shape (lines_of script) steps
  pub printed : text ≡ texts_of steps
  pub only : (others : List Step) → LoadsAll shape (lines_of script) others → lacking_of others ≡ lacking_of steps → others ≡ steps

-- a reader failed: that of the script, or that of an input behind it, of which nothing is told then
abbrev pub LoadsOrEnded : Shape → Option (List ℕ) → Option (List ℕ) → List ℕ → Type 0
LoadsOrEnded shape reads left text = LoadsEnded shape reads left text ⊎ LoadsScript shape reads text

-- what the lines of a script print that are complete in what was read of it, where it is run or loaded
abbrev pub ScriptEnded : Input → Option (List ℕ) → Option (List ℕ) → List ℕ → Type 0
ScriptEnded (Script form) = PrintsEnded form
ScriptEnded (Network shape) = LoadsEnded shape
ScriptEnded (Captures form) = λ reads left text. ⊥
