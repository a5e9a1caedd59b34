-- Steps that are taken one after another.
use Rattle.std.specs.Prelude.{◌≡◌, ◌+◌, ℕ, Bool, List, [], length, if◌then◌else◌}
use Rattle.std.specs.List.{AllZip, flat_map}
use Rattle.mst_net.specs.tables.Tables.{Net}
use Rattle.mst_rows.specs.Rows.{Row}
use Rattle.mst_change.specs.Reading.{LineRead}
use Rattle.mst_policy.specs.Leaving.{leaving_of}
use Rattle.mst_policy.specs.declared.policy.PolicyLine.{PolicyLine}
use Rattle.mst_telling.specs.Steps.{breaks}
use Rattle.mst_verdict.specs.Verifying.{IsPriorOf}
use Rattle.mst_verdict.specs.Setting.{after_steps}
use Rattle.mst_verdict.specs.Stepping.{AreRowsIn, IsStepTold, StepTold, Watch, changes_in, course_of, rows_told, step_made, steps_made}
use Rattle.mst_verdict.specs.declared.stepping.Course.{Course}
use Rattle.mst_verdict.specs.declared.stepping.Taken.{Taken}
use Rattle.mst_verdict.specs.declared.stepping.Watching.{Watching}

-- this is counted of what is told of a step
pub record IsTaken (lines : List PolicyLine) (told : StepTold) (taken : Taken) : Type 0 where
  pub refused : taken.refused ≡ length told.refused
  pub does : taken.does ≡ told.does
  pub breaks : taken.breaks ≡ breaks (changes_in lines told)

abbrev pub one_if : Bool → ℕ
one_if b = if b then 1 else 0

abbrev pub course_with : Course → Taken → Course
course_with course taken = record {
  unread = course.unread;
  refused = course.refused + taken.refused;
  steps = course.steps + 1;
  moving = course.moving + one_if taken.does.moves;
  cutting = course.cutting + one_if taken.does.cuts;
  failing = course.failing + one_if taken.breaks;
  unkept = course.unkept;
}

-- a policy has so many lines that can't be read, and so many that the last network doesn't keep
abbrev pub course_for : Course → ℕ → ℕ → Course
course_for course unread unkept = record course { unread = unread; unkept = unkept }

-- the plan, what carries its VIDs, the number, the lines and what these mean to leave are those by which networks are judged
pub record IsWatching (j : Watching) (w : Watch) : Type 0 where
  pub prior : IsPriorOf j.first.now (w.first, w.outcome)
  pub last : w.last ≡ j.last
  pub lines : w.lines ≡ j.lines.now
  pub leaving : j.leaving.now ≡ leaving_of w.lines

-- a step was taken of a network for which a policy has these rows, and behind it it has those: this is told of the step and counted, and its rows were put so
pub record TakesStep (w : Watch) (number : ℕ) (net : Net) (lines : List LineRead) (before now : List (List Row)) (taken : Taken) (Put : List Row → Type 0) : Type 0 where
  pub told : StepTold
  pub is : IsStepTold w (step_made number net lines) told
  pub was : told.before ≡ before
  pub follows : told.now ≡ now
  pub counted : IsTaken w.lines told taken
  pub put : Put (rows_told w.lines told)

-- these are the rows of some steps of network 0, and this is counted of them
pub record AreSteps (w : Watch) (steps : List (List LineRead)) (course : Course) (rows : List Row) : Type 0 where
  pub told : List StepTold
  pub each : AllZip (IsStepTold w) (steps_made 1 w.first steps) told
  pub counted : course ≡ course_of w.lines 0 told []
  pub are : rows ≡ flat_map (rows_told w.lines) told

-- steps were taken of network 0, behind which a policy has these rows: this is counted of them, and their rows were put so
pub record TakesSteps (w : Watch) (steps : List (List LineRead)) (now : List (List Row)) (course : Course) (Put : List Row → Type 0) : Type 0 where
  pub rows : List Row
  pub are : AreSteps w steps course rows
  pub judged : AreRowsIn w (length steps) (after_steps w.first steps) now
  pub put : Put rows
