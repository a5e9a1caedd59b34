-- The lines of an input that an engine serves, as a job.
use Rattle.std.specs.Prelude.{◌≡◌, ℕ, ◌+◌, List, []}
use Rattle.mst_report.specs.Planned.{planned_state}
use Rattle.mst_engine.specs.Engine.{IsCounted, IsReady, RunsOn, reply_text, shape_of, tally_of}
use Rattle.mst_engine.specs.Steps.{Step, left_by, texts_of, refusals_of, lacks_of, differing_of, answers_of}
use Rattle.mst_engine.specs.declared.serving.Replied.{Replied}
use Rattle.mst_engine.specs.declared.serving.Serving.{Serving}

-- what is printed of a line
abbrev pub replied_text : Replied → List ℕ
replied_text said = reply_text (shape_of said.input) said.number said.reply

-- the line of this number may come
pub record Awaits (job : Serving) (number : ℕ) : Type 0 where
  pub ready : IsReady job.input job.engine
  pub numbered : job.engine.number ≡ number
  pub counted : IsCounted (tally_of job.engine)

-- these lines do some steps, which print this, and are counted
pub record Tells (job : Serving) (number : ℕ) (lines : List (List ℕ)) (text : List ℕ) (after : Serving) : Type 0 where
  pub steps : List Step
  pub runs : RunsOn job.input job.engine.version number (planned_state job.engine.planner) lines steps
  pub prints : text ≡ texts_of steps
  pub state : planned_state after.engine.planner ≡ left_by (planned_state job.engine.planner) steps
  pub refused : after.engine.refused ≡ job.engine.refused + refusals_of steps
  pub memory : after.engine.memory ≡ job.engine.memory + lacks_of steps
  pub differing : after.engine.differing ≡ job.engine.differing + differing_of steps
  pub answered : after.engine.answered ≡ job.engine.answered + answers_of steps

-- the end prints nothing
abbrev pub Ends : Serving → ℕ → List ℕ → Serving → Type 0
Ends job number said after = (said ≡ []) × (after ≡ job)
