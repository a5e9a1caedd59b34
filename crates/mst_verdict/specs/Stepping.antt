-- What the steps of a change do, one after another, and what a policy tells of the networks between them.
use Rattle.std.specs.Prelude.{◌≡◌, ◌+◌, ◌-◌, ◌≤◌, ◌==◌, ℕ, List, [], ◌∷◌, ◌++◌, length, Option, None, Some, count_by, slice_get, if◌then◌else◌}
use Rattle.std.specs.List.{AllZip, flat_map}
use Rattle.std.specs.Option.{option_map, option_map_or}
use Rattle.mst_net.specs.tables.Tables.{Net}
use Rattle.mst_rows.specs.Rows.{Row}
use Rattle.mst_change.specs.Reading.{LineRead}
use Rattle.mst_change.specs.Steps.{all_lines}
use Rattle.mst_forest.specs.Outcome.{Outcome, IsOutcome}
use Rattle.mst_policy.specs.Leaving.{leaving_of}
use Rattle.mst_policy.specs.declared.policy.PolicyLine.{PolicyLine}
use Rattle.mst_sweeping.specs.StepText.{AreStepRows, last_row}
use Rattle.mst_sweeping.specs.declared.step.Deed.TheVariants as deed
use Rattle.mst_sweeping.specs.declared.step.PolicyCounts.{PolicyCounts}
use Rattle.mst_sweeping.specs.declared.step.Step.{Step}
use Rattle.mst_sweeping.specs.declared.step.Stepped.{Stepped}
use Rattle.mst_sweeping.specs.declared.step.Walked.{Walked}
use Rattle.mst_verify.specs.tree_judges.judged.reasons.Named.{Prior}
use Rattle.mst_telling.specs.Steps.{Change, breaks, changes, front_rows, judged_rows, start_rows, unkept_count}
use Rattle.mst_verdict.specs.Verifying.{Judges}
use Rattle.mst_verdict.specs.Setting.{after_lines, after_steps, refused_lines}
use Rattle.mst_verdict.specs.declared.stepping.Course.{Course}

-- ---- the steps
-- a step: its number, from 1 on, its lines, and the networks before and after it
pub record StepMade : Type 0 where
  pub number : ℕ
  pub lines : List LineRead
  pub before : Net
  pub now : Net

-- one of a network
abbrev pub step_made : ℕ → Net → List LineRead → StepMade
step_made n net lines = record { number = n; lines = lines; before = net; now = after_lines net lines }

-- and some, one after another, numbered from n on
abbrev pub steps_made : ℕ → Net → List (List LineRead) → List StepMade
steps_made n net [] = []
steps_made n net (lines ∷ steps) = step_made n net lines ∷ steps_made (n + 1) (after_lines net lines) steps

-- the number of the line at a place
abbrev pub number_at : List LineRead → ℕ → ℕ
number_at lines place = option_map_or (λ line. line.number) (slice_get lines place) 0

-- a step by the numbers of its first line and of its last one
abbrev pub numbers_of : ℕ → List LineRead → Step
numbers_of n lines = record { number = n; first = number_at lines 0; last = number_at lines (length lines - 1) }

-- ---- the policy
-- its lines: none, where there is no policy
abbrev pub lines_of : Option (List PolicyLine) → List PolicyLine
lines_of None = []
lines_of (Some lines) = lines

-- the rows in front, if there is a policy: which of its lines can't be read, or that it has none
abbrev pub front_rows_if : Option (List PolicyLine) → List Row
front_rows_if None = []
front_rows_if (Some lines) = front_rows lines

-- by what the networks of a change are judged: network 0, which is before all steps, with a settled outcome, the number of the last one, and the lines
pub record Watch : Type 0 where
  pub first : Net
  pub outcome : Outcome
  pub last : ℕ
  pub lines : List PolicyLine

-- nothing is before network 0, and that is before each other one; what the lines mean to leave is left out
abbrev pub prior_at : Watch → ℕ → Prior
prior_at w n = record { before = if n == 0 then None else Some (w.first, w.outcome); leaving = leaving_of w.lines }

-- these are the rows of each line in network n. A line is unkept there where it has some
abbrev pub AreRowsIn : Watch → ℕ → Net → List (List Row) → Type 0
AreRowsIn w n net rows = Judges net (prior_at w n) (n == w.last) w.lines rows

-- ---- what is told of a step
-- the rows of its lines that are refused, of what it does, and of each line of the policy in the networks before and after it
pub record StepTold : Type 0 where
  pub number : ℕ
  pub refused : List Row
  pub own : List Row
  pub does : Stepped
  pub before : List (List Row)
  pub now : List (List Row)

-- what becomes of each line of the policy
abbrev pub changes_in : List PolicyLine → StepTold → List Change
changes_in lines t = changes lines t.before t.now

-- all rows of it: of the policy only what is new
abbrev pub rows_told : List PolicyLine → StepTold → List Row
rows_told lines t = t.refused ++ t.own ++ judged_rows t.number (changes_in lines t)

-- this is told of a step, by a settled outcome of the network before it and one of that after it
pub record IsStepTold (w : Watch) (s : StepMade) (t : StepTold) : Type 0 where
  pub before : Outcome
  pub is_before : IsOutcome s.before before
  pub now : Outcome
  pub is_now : IsOutcome s.now now
  pub number : t.number ≡ s.number
  pub refused : t.refused ≡ refused_lines s.number s.before s.lines
  pub own : AreStepRows (leaving_of w.lines) s.before before s.now now (deed.Step (numbers_of s.number s.lines)) t.own t.does
  pub judged_before : AreRowsIn w (s.number - 1) s.before t.before
  pub judged_now : AreRowsIn w s.number s.now t.now

-- ---- and of all of them
-- how many lines of the policy can't be read, how many of the change are refused, how many steps there are, how many of these move some VIDs, cut some, and break the policy, and
-- how many of its lines the last network doesn't keep
abbrev pub course_of : List PolicyLine → ℕ → List StepTold → List (List Row) → Course
course_of lines unread told last = record {
  unread = unread;
  refused = length (flat_map (λ t. t.refused) told);
  steps = length told;
  moving = count_by (λ t. t.does.moves) told;
  cutting = count_by (λ t. t.does.cuts) told;
  failing = count_by (λ t. breaks (changes_in lines t)) told;
  unkept = unkept_count last;
}

-- the row behind them: with a policy it has how many break it, and how many of its lines aren't kept
abbrev pub walked : Course → Walked
walked course = record { steps = course.steps; moving = course.moving; cutting = course.cutting }

abbrev pub policy_counts : Course → PolicyCounts
policy_counts course = record { failing = course.failing; unkept = course.unkept }

abbrev pub course_row : Option (List PolicyLine) → Course → Row
course_row policy course = last_row (walked course) (option_map (λ lines. policy_counts course) policy)

-- by what the networks of this change are judged
abbrev pub watch_of : Net → Outcome → List (List LineRead) → List PolicyLine → Watch
watch_of net o steps lines = record { first = net; outcome = o; last = length steps; lines = lines }

-- why network 0 doesn't keep some lines, and what is told of each step; and this is counted
pub record AreWatched (net : Net) (steps : List (List LineRead)) (lines : List PolicyLine) (unread : ℕ) (course : Course) (rows : List Row) : Type 0 where
  pub outcome : Outcome
  pub is_outcome : IsOutcome net outcome
  pub start : List (List Row)
  pub told : List StepTold
  pub last : List (List Row)
  pub judged_start : AreRowsIn (watch_of net outcome steps lines) 0 net start
  pub each : AllZip (IsStepTold (watch_of net outcome steps lines)) (steps_made 1 net steps) told
  pub judged_last : AreRowsIn (watch_of net outcome steps lines) (length steps) (after_steps net steps) last
  pub counted : course ≡ course_of lines unread told last
  pub are : rows ≡ start_rows lines start ++ flat_map (rows_told lines) told

-- The rows of a change of a network, and what is counted of it: first the lines of the policy that can't be read, and behind the steps the last row
pub record Steps (net : Net) (steps : List (List LineRead)) (policy : Option (List PolicyLine)) (course : Course) (rows : List Row) : Type 0 where
  pub each : List Row
  pub are_each : AreWatched net steps (lines_of policy) (length (front_rows_if policy)) course each
  pub are : rows ≡ front_rows_if policy ++ each ++ course_row policy course ∷ []

-- no more is counted of steps than there is
pub record IsFew (course : Course) (all : List (List LineRead)) : Type 0 where
  pub refused : course.refused ≤ length (all_lines all)
  pub steps : course.steps ≡ length all
  pub moving : course.moving ≤ length all
  pub cutting : course.cutting ≤ length all
  pub failing : course.failing ≤ length all
