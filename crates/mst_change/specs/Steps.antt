-- The steps of a change.
use Rattle.std.specs.Prelude.{ℕ, ◌+◌, List, [], ◌∷◌, ◌++◌, if◌then◌else◌}
use Rattle.std.specs.List.{flat_map}
use Rattle.mst_lang.specs.declared.line.Version.{Version}
use Rattle.mst_lang.specs.declared.line.Version.TheVariants.{V1}
use Rattle.mst_change.specs.Reading.{version_at, read_at, parts_steps, line_read, LineRead}

-- a step has the lines that do something, if there are any
abbrev pub step_of : List LineRead → List (List LineRead)
step_of [] = []
step_of (line ∷ lines) = (line ∷ lines) ∷ []

-- the steps of lines that are numbered from n on, where these lines have come of the next step
abbrev pub steps_from : Version → ℕ → List LineRead → List (List ℕ) → List (List LineRead)
steps_from known n begun [] = step_of begun
steps_from known n begun (line ∷ lines) =
    if parts_steps (read_at known n line) line then step_of begun ++ steps_from (version_at known n line) (n + 1) [] lines
    else steps_from (version_at known n line) (n + 1) (begun ++ line_read n (read_at known n line)) lines

-- the steps of a change of these lines
abbrev pub change_of : List (List ℕ) → List (List LineRead)
change_of lines = steps_from V1 1 [] lines

-- the lines that do something, of lines that are numbered from n on
abbrev pub lines_from : Version → ℕ → List (List ℕ) → List LineRead
lines_from known n [] = []
lines_from known n (line ∷ lines) = line_read n (read_at known n line) ++ lines_from (version_at known n line) (n + 1) lines

-- those of steps
abbrev pub all_lines : List (List LineRead) → List LineRead
all_lines steps = flat_map (λ lines. lines) steps

-- what was read of a change so far: its version, the steps that have ended, and the lines of the one that has begun
pub record ReadSoFar : Type 0 where
  pub version : Version
  pub ended : List (List LineRead)
  pub begun : List LineRead

-- at first nothing
abbrev pub nothing_read : ReadSoFar
nothing_read = record { version = V1; ended = []; begun = [] }

-- its steps where these lines follow, numbered from n on
abbrev pub steps_with : ReadSoFar → ℕ → List (List ℕ) → List (List LineRead)
steps_with so_far n lines = so_far.ended ++ steps_from so_far.version n so_far.begun lines

-- where nothing follows
abbrev pub ended : ReadSoFar → ReadSoFar
ended so_far = record { version = so_far.version; ended = so_far.ended ++ step_of so_far.begun; begun = [] }
