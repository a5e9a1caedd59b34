-- What serving an input promises.
use Rattle.std.specs.Prelude.{◌≡◌, ℕ, ◌+◌, ◌<◌, ◌^◌, List, Option, None}
use Rattle.std.specs.Io.KnownBytes.{Consumes}
use Rattle.mst_report.specs.State.{State}
use Rattle.mst_lang.specs.Lines.{lines_of, ended_lines}
use Rattle.mst_engine.specs.Steps.{Step, left_by, texts_of, refusals_of, lacks_of, differing_of, answers_of}
use Rattle.mst_io.specs.Written.{Reads}
use Rattle.mst_engine.specs.Engine.{Tally, RunsOn}
use Rattle.mst_engine.specs.declared.engine.Input.{Input}
use Rattle.mst_io.specs.declared.outcome.Outcome.{Outcome}

-- all lines of the input were served, from this state on, and this is what they print. They were counted
pub record Served (input : Input) (from : State) (reads : Option (List ℕ)) (text : List ℕ) (t : Tally) : Type 0 where
  pub bytes : List ℕ
  pub steps : List Step
  pub read : Reads reads bytes
  pub runs : RunsOn input None 1 from (lines_of bytes) steps
  pub printed : text ≡ texts_of steps
  pub state : t.state ≡ left_by from steps
  pub memory : t.memory ≡ lacks_of steps
  pub refused : t.refused ≡ refusals_of steps
  pub differing : t.differing ≡ differing_of steps
  pub answered : t.answered ≡ answers_of steps

-- what the input prints, whatever was counted
abbrev pub Serves : Input → State → Option (List ℕ) → List ℕ → Type 0
Serves input from reads text = (t : Tally) × Served input from reads text t

-- the lines that were complete in what was read were served, and this is the whole of what they print
pub record ServedEnded (input : Input) (from : State) (reads left : Option (List ℕ)) (text : List ℕ) : Type 0 where
  pub read : List ℕ
  pub steps : List Step
  pub consumed : Consumes reads left read
  pub runs : RunsOn input None 1 from (ended_lines read) steps
  pub printed : text ≡ texts_of steps

-- so few were counted that the counts of two inputs can be added
pub record IsFew (outcome : Outcome) : Type 0 where
  pub refused : outcome.refused < 2 ^ 60
  pub memory : outcome.memory < 2 ^ 60
  pub differing : outcome.differing < 2 ^ 60

-- what two inputs have counted
abbrev pub both : Outcome → Outcome → Outcome
both a b = record { refused = a.refused + b.refused; memory = a.memory + b.memory; differing = a.differing + b.differing }
