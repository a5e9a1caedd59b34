-- The lines of a policy or of a change as they come.
use Rattle.std.specs.Prelude.{◌≡◌, ◌<◌, ◌≤◌, ◌^◌, ◌+◌, ◌++◌, ℕ, false, List, [], Option, length}
use Rattle.mst_change.specs.Reading.{LineRead}
use Rattle.mst_change.specs.Steps.{ReadSoFar, change_of, nothing_read, steps_with}
use Rattle.mst_io.specs.Held.{lines_held}
use Rattle.mst_io.specs.Written.{Reads}
use Rattle.mst_lang.specs.Lines.{last_line, lines_of}
use Rattle.mst_policy.specs.Lines.{policy_from}
use Rattle.mst_policy.specs.declared.policy.PolicyLine.{PolicyLine}
use Rattle.mst_inputs.specs.declared.lines.Reading.{Reading}

-- ---- what a reader gives
-- the lines of a policy
abbrev pub AreLines : Option (List ℕ) → List PolicyLine → Type 0
AreLines reads lines = (policy : List ℕ) × Reads reads policy × (lines ≡ policy_from 1 (lines_of policy))

-- the steps of a change
abbrev pub AreSteps : Option (List ℕ) → List (List LineRead) → Type 0
AreSteps reads steps = (change : List ℕ) × Reads reads change × (steps ≡ change_of (lines_of change))

-- ---- what comes of lines that are numbered so, behind those before
abbrev pub policy_with : List PolicyLine → ℕ → List (List ℕ) → List PolicyLine
policy_with policy n lines = policy ++ policy_from n lines

-- their steps have ended then. No version is told of them
abbrev pub change_with : ReadSoFar → ℕ → List (List ℕ) → ReadSoFar
change_with change n lines = record nothing_read { ended = steps_with change n lines }

-- ---- lines, one after another, as a job
abbrev pub AwaitsCounted : {L : Type 0} → Reading L → ℕ → Type 0
AwaitsCounted reading number = reading.count + 1 ≤ number

-- They print nothing. Where memory was wanted for none of them, nor before, they were taken: what comes of them and of those that follow
-- is what comes then of those that follow
pub record TakesOn {L : Type 0} (with_lines : L → ℕ → List (List ℕ) → L) (old : Reading L) (number : ℕ) (lines : List (List ℕ)) (text : List ℕ) (new : Reading L) : Type 0 where
  pub nothing : text ≡ []
  pub counted : new.count ≡ old.count + length lines
  pub taken : new.is_lost ≡ false → (old.is_lost ≡ false) × ((others : List (List ℕ)) → with_lines new.lines (number + length lines) others ≡ with_lines old.lines number (lines ++ others))

-- the end prints nothing, and comes well only where memory was wanted for no line
abbrev pub EndsReading : {L : Type 0} → Reading L → ℕ → List ℕ → Reading L → Type 0
EndsReading old number said new = (said ≡ []) × (new ≡ old) × (old.is_lost ≡ false)

-- all that a reader gives was taken, from the first line on
pub record AreTaken {L : Type 0} (with_lines : L → ℕ → List (List ℕ) → L) (begun : L) (reads : Option (List ℕ)) (taken : L) : Type 0 where
  pub bytes : List ℕ
  pub read : Reads reads bytes
  pub few : length (lines_held last_line [] bytes) < 2 ^ 60
  pub number : ℕ
  pub comes : with_lines taken number [] ≡ with_lines begun 1 (lines_held last_line [] bytes)
