-- The steps of a change that was read, as its bytes came.
use Rattle.std.proofs.Common.{◌≡◌, ℕ, ◌+◌, ◌<◌, ◌≤◌, ◌^◌, Bool, true, false, nat_eq, cond, List, [], ◌∷◌, ◌++◌, length, length-append, Result, Ok, Err, Option, refl, sym, ap, ap₂, ◌∙◌, inl, inr, arith}
use Rattle.std.proofs.lemmas.Bool.{lt-ltb}
use Rattle.mst_change.specs.Reading.{LineRead, line_read, parts_steps, read_at, reading_at, version_at, version_said}
use Rattle.mst_change.specs.Steps.{ReadSoFar, all_lines, nothing_read, step_of, steps_from, steps_with}
use Rattle.mst_io.specs.Held.{hold, lines_held}
use Rattle.mst_io.proofs.Long.{held_cases, long_reading, none_held_of, one_held_of}
use Rattle.mst_io.proofs.Starts.{IsHeld, IsHeld-nothing, IsHeld-push}
use Rattle.mst_lang.specs.Lines.{drop_cr, last_line, lines_from}
use Rattle.mst_lang.specs.Reading.{reading_as}
use Rattle.mst_lang.specs.declared.line.Fault.{Fault}
use Rattle.mst_lang.specs.declared.line.Fault.TheVariants.{E01}
use Rattle.mst_lang.specs.declared.line.Line.{Line}
use Rattle.mst_lang.specs.declared.line.Line.TheVariants.{Blank, Mark, Edit as edit, Query as query}
use Rattle.mst_lang.specs.declared.line.Version.{Version}
use Rattle.mst_lang.specs.declared.line.Version.TheVariants.{V1, V2}
use Rattle.mst_inputs.specs.Lines.{AreSteps, AreTaken, change_with}

-- ---- it is enough to hold a part of a line that is too long
long_says : (line : List ℕ) → 4096 < length line → version_said line ≡ V1
long_says line long = rw (lt-ltb 4096 (length line) long) refl

-- how a line is read, by whether it is the first
version_by : Bool → Version → List ℕ → Version
version_by one known line = cond one (version_said line) known

read_by : Bool → Version → List ℕ → Result Line Fault
read_by one V1 line = reading_as V1 line
read_by one V2 line = cond one (Ok Blank) (reading_as V2 line)

version_long : (one : Bool) (known : Version) (line : List ℕ) → 4096 < length line → cond one (version_said line) known ≡ cond one V1 known
version_long one known line long = ap (λ v. cond one v known) (long_says line long)

read_long : (one : Bool) (known : Version) (line : List ℕ) → 4096 < length line → read_by one (cond one V1 known) line ≡ Err E01
unfolding read_by
read_long true known line long = long_reading V1 line long
read_long false V1 line long = long_reading V1 line long
read_long false V2 line long = long_reading V2 line long

read_at_by : (known : Version) (n : ℕ) (line : List ℕ) (v : Version) → version_at known n line ≡ v → read_at known n line ≡ read_by (nat_eq n 1) v line
unfolding read_by
read_at_by known n line V1 e = ap (λ v. reading_at v n line) e
read_at_by known n line V2 e = ap (λ v. reading_at v n line) e

long_is_unread : (known : Version) (n : ℕ) (line : List ℕ) → 4096 < length line → read_at known n line ≡ Err E01
long_is_unread known n line long = read_at_by known n line (cond (nat_eq n 1) V1 known) (version_long (nat_eq n 1) known line long) ∙ read_long (nat_eq n 1) known line long

-- what a line makes of the steps, by how it is read
abbrev stepped_by : ℕ → List LineRead → List (List ℕ) → Version → Result Line Fault → List ℕ → List (List LineRead)
stepped_by n begun lines version read line = cond (parts_steps read line) (step_of begun ++ steps_from version (n + 1) [] lines) (steps_from version (n + 1) (begun ++ line_read n read) lines)

long_step : (known : Version) (n : ℕ) (begun : List LineRead) (line : List ℕ) (lines : List (List ℕ)) → 4096 < length line
    → steps_from known n begun (line ∷ lines) ≡ steps_from (cond (nat_eq n 1) V1 known) (n + 1) (begun ++ line_read n (Err E01)) lines
long_step known n begun line lines long = ap₂ (λ v r. stepped_by n begun lines v r line) (version_long (nat_eq n 1) known line long) (long_is_unread known n line long)

held_step : (known : Version) (n : ℕ) (begun : List LineRead) (part held : List ℕ) (lines : List (List ℕ)) → IsHeld part held → steps_from known n begun (drop_cr held ∷ lines) ≡ steps_from known n begun (drop_cr part ∷ lines)
held_step known n begun part held lines is =
    elim (held_cases part held is) [
      | inl same ↦ ap (λ l. steps_from known n begun (drop_cr l ∷ lines)) same
      | inr long ↦ long_step known n begun (drop_cr held) lines long.0 ∙ sym (long_step known n begun (drop_cr part) lines long.1)
    ]

-- lines from which the same steps come, whatever stands before them
abbrev Alike : List (List ℕ) → List (List ℕ) → Type 0
Alike xs ys = (known : Version) (n : ℕ) (begun : List LineRead) → steps_from known n begun xs ≡ steps_from known n begun ys

behind_alike : (line : List ℕ) (xs ys : List (List ℕ)) → Alike xs ys → Alike (line ∷ xs) (line ∷ ys)
behind_alike line xs ys h known n begun =
    let version = version_at known n line in
    let read = read_at known n line in
    elim (parts_steps read line) as (λ t. cond t (step_of begun ++ steps_from version (n + 1) [] xs) (steps_from version (n + 1) (begun ++ line_read n read) xs)
    ≡ cond t (step_of begun ++ steps_from version (n + 1) [] ys) (steps_from version (n + 1) (begun ++ line_read n read) ys)) [
      | true ↦ ap (λ l. step_of begun ++ l) (h version (n + 1) [])
      | false ↦ h version (n + 1) (begun ++ line_read n read)
    ]

last_alike : (part held : List ℕ) → IsHeld part held → Alike (last_line held) (last_line part)
last_alike [] [] is known n begun = refl
last_alike [] (c ∷ cs) is known n begun = absurd (one_held_of c cs is)
last_alike (b ∷ bs) [] is known n begun = absurd (none_held_of b bs is)
last_alike (b ∷ bs) (c ∷ cs) is known n begun = held_step known n begun (b ∷ bs) (c ∷ cs) [] is

change_held : (bytes part held : List ℕ) → IsHeld part held → Alike (lines_held last_line held bytes) (lines_from last_line part bytes)
change_held [] part held is = last_alike part held is
change_held (b ∷ bs) part held is =
    elim (nat_eq b 10) as (λ t. Alike (cond t (drop_cr held ∷ lines_held last_line [] bs) (lines_held last_line (hold held b) bs)) (cond t (drop_cr part ∷ lines_from last_line [] bs) (lines_from last_line (part ++ b ∷ []) bs))) [
      | true ↦ λ known n begun. held_step known n begun part held (lines_held last_line [] bs) is
          ∙ behind_alike (drop_cr part) (lines_held last_line [] bs) (lines_from last_line [] bs) (change_held bs [] [] IsHeld-nothing) known n begun
      | false ↦ change_held bs (part ++ b ∷ []) (hold held b) (IsHeld-push part held b is)
    ]

-- ---- how many lines they have
read_short : (n : ℕ) (read : Result Line Fault) → length (line_read n read) ≤ 1
read_short n (Err fault) = omega arith
read_short n (Ok Blank) = omega arith
read_short n (Ok Mark) = omega arith
read_short n (Ok (edit e)) = omega arith
read_short n (Ok (query q)) = omega arith

step_short : (begun : List LineRead) (rest : List (List LineRead)) → length (all_lines (step_of begun ++ rest)) ≤ length begun + length (all_lines rest)
step_short [] rest = omega arith
step_short (l ∷ ls) rest = omega (arith, length-append (l ∷ ls) (all_lines rest))

alone_short : (begun : List LineRead) → length (all_lines (step_of begun)) ≤ length begun
alone_short [] = omega arith
alone_short (l ∷ ls) = omega (arith, length-append (l ∷ ls) [])

steps_short : (lines : List (List ℕ)) (known : Version) (n : ℕ) (begun : List LineRead) → length (all_lines (steps_from known n begun lines)) ≤ length begun + length lines
steps_short [] known n begun = omega (arith, alone_short begun)
steps_short (line ∷ lines) known n begun =
    let version = version_at known n line in
    let read = read_at known n line in
    elim (parts_steps read line) as (λ t. length (all_lines (cond t (step_of begun ++ steps_from version (n + 1) [] lines) (steps_from version (n + 1) (begun ++ line_read n read) lines))) ≤ length begun + length (line ∷ lines)) [
      | true ↦ omega (arith, step_short begun (steps_from version (n + 1) [] lines), steps_short lines version (n + 1) [])
      | false ↦ omega (arith, steps_short lines version (n + 1) (begun ++ line_read n read), length-append begun (line_read n read), read_short n read)
    ]

-- ---- so they are the steps of the change
pub change_takes : (old new : ReadSoFar) (n : ℕ) (line : List ℕ) → ((others : List (List ℕ)) → steps_with new (n + 1) others ≡ steps_with old n (line ∷ others)) → (others : List (List ℕ)) → change_with new (n + 1) others ≡ change_with old n (line ∷ others)
change_takes old new n line takes others = ap (λ (steps : List (List LineRead)). record nothing_read { ended = steps }) (takes others)

module _ (begun : ReadSoFar) (reads : Option (List ℕ)) (change : ReadSoFar) (none : begun ≡ nothing_read) (taken : AreTaken change_with begun reads change) (steps : List (List LineRead)) (is : steps ≡ change.ended ++ step_of change.begun) where
  steps_from_held : steps ≡ steps_from V1 1 [] (lines_held last_line [] taken.bytes)
  steps_from_held = is ∙ ap (λ (c : ReadSoFar). c.ended) taken.comes ∙ ap (λ c. steps_with c 1 (lines_held last_line [] taken.bytes)) none

  pub are_steps : AreSteps reads steps
  are_steps = (taken.bytes, taken.read, steps_from_held ∙ change_held taken.bytes [] [] IsHeld-nothing V1 1 [])

  pub few_steps : length (all_lines steps) < 2 ^ 60
  few_steps = omega (arith, ap (λ s. length (all_lines s)) steps_from_held, steps_short (lines_held last_line [] taken.bytes) V1 1 [], taken.few)
