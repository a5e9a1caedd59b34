-- That it is enough to hold a part of a line that is too long.
use Rattle.std.proofs.Common.{◌≡◌, ℕ, ◌<◌, true, false, nat_eq, cond, List, [], ◌∷◌, ◌++◌, length, Result, Ok, Err, Some, None, refl, sym, ap, subst, ◌∙◌, ◌⊎◌, inl, inr}
use Rattle.std.proofs.lemmas.Bool.{lt-ltb}
use Rattle.mst_lang.specs.Lines.{drop_cr, last_line, no_line, lines_from, lines_of, ended_lines}
use Rattle.mst_lang.specs.declared.line.Fault.{Fault}
use Rattle.mst_lang.specs.declared.line.Line.{Line}
use Rattle.mst_lang.specs.declared.line.Line.TheVariants.{Blank}
use Rattle.mst_lang.specs.declared.line.Version.{Version}
use Rattle.mst_lang.specs.declared.line.Version.TheVariants.{V1, V2}
use Rattle.mst_bpdu.specs.Reading.{reading as captured, octets_of}
use Rattle.mst_bpdu.specs.declared.fault.BpduFault.TheVariants.{B01}
use Rattle.mst_report.specs.State.{State}
use Rattle.mst_engine.specs.Captures.{ServesCapture, ServesMessage, capture_of, is_skipped}
use Rattle.mst_engine.specs.Engine.{RunsOn}
use Rattle.mst_io.specs.Held.{hold, lines_held}
use Rattle.mst_engine.specs.Script.{ServesRead, reading_at, version_said, version_of, loading}
use Rattle.mst_print.specs.Shape.{of_script}
use Rattle.mst_engine.specs.Steps.{Step, RunsBy}
use Rattle.mst_engine.specs.declared.engine.Input.{Input}
use Rattle.mst_engine.specs.declared.engine.Input.TheVariants.{Script, Network, Captures}
use Rattle.mst_print.specs.declared.form.Form.{Form}
use Rattle.mst_print.specs.declared.form.Shape.{Shape}
use Rattle.mst_io.proofs.Long.{held_cases, long_reading, none_held_of, one_held_of}
use Rattle.mst_io.proofs.Starts.{IsHeld, IsHeld-nothing, IsHeld-push}
use Rattle.mst_engine.proofs.Skips.{skips, skips-start}
use Rattle.mst_engine.proofs.Steps.{ServesBy, runs_alike}

-- a captured message on a line that is too long isn't read
captured-long : (line : List ℕ) → 4096 < length line → captured line ≡ Err B01
unfolding octets_of
captured-long line long = rw (lt-ltb 4096 (length line) long) refl

long_says : (line : List ℕ) → 4096 < length line → version_said line ≡ V1
long_says line long = rw (lt-ltb 4096 (length line) long) refl

-- so it is read alike, in a script of each version
held_reading : (version : Version) (number : ℕ) (part held : List ℕ) → IsHeld part held → reading_at version number (drop_cr held) ≡ reading_at version number (drop_cr part)
held_reading version number part held is = by version (held_cases part held is)
  where
    by : (version : Version) → (held ≡ part) ⊎ ((4096 < length (drop_cr held)) × (4096 < length (drop_cr part))) → reading_at version number (drop_cr held) ≡ reading_at version number (drop_cr part)
    by version (inl same) = ap (λ l. reading_at version number (drop_cr l)) same
    by V1 (inr long) = long_reading V1 (drop_cr held) long.0 ∙ sym (long_reading V1 (drop_cr part) long.1)
    by V2 (inr long) = ap (λ r. cond (nat_eq number 1) (Ok Blank) r) (long_reading V2 (drop_cr held) long.0 ∙ sym (long_reading V2 (drop_cr part) long.1))

-- and says the same version
held_says : (part held : List ℕ) → IsHeld part held → version_said (drop_cr held) ≡ version_said (drop_cr part)
held_says part held is =
    elim (held_cases part held is) [
      | inl same ↦ ap (λ l. version_said (drop_cr l)) same
      | inr long ↦ long_says (drop_cr held) long.0 ∙ sym (long_says (drop_cr part) long.1)
    ]

-- and in captures
held_capture : (part held : List ℕ) → IsHeld part held → capture_of (drop_cr held) ≡ capture_of (drop_cr part)
held_capture part held is =
    let skipped : is_skipped (drop_cr held) ≡ is_skipped (drop_cr part) = skips-start held ∙ ap skips is.start ∙ sym (skips-start part) in
    ap (λ t. cond t None (Some (captured (drop_cr held)))) skipped
    ∙ ap (λ r. cond (is_skipped (drop_cr part)) None (Some r)) (elim (held_cases part held is) [
      | inl same ↦ ap (λ l. captured (drop_cr l)) same
      | inr long ↦ captured-long (drop_cr held) long.0 ∙ sym (captured-long (drop_cr part) long.1)
    ])

-- what a line does, by what it does where it is held
abbrev HeldAlike : (ℕ → State → List ℕ → Step → Type 0) → Type 0
HeldAlike Does = (number : ℕ) (now : State) (part held : List ℕ) (s : Step) → IsHeld part held → Does number now (drop_cr held) s → Does number now (drop_cr part) s

script_alike : (shape : Shape) (how : Result Line Fault → Result Line Fault) (version : Version) → HeldAlike (ServesBy shape how version)
script_alike shape how version number now part held s is h = subst (λ r. ServesRead shape number now (how r) s) (held_reading version number part held is) h

captures_alike : (form : Form) → HeldAlike (ServesCapture form)
captures_alike form number now part held s is h = subst (λ r. ServesMessage form number now r s) (held_capture part held is) h

module _ (Does : ℕ → State → List ℕ → Step → Type 0) (alike : HeldAlike Does) where
  -- the line that is left, and where none counts
  last_held : (part held : List ℕ) (n : ℕ) (now : State) (steps : List Step) → IsHeld part held → RunsBy Does n now (last_line held) steps → RunsBy Does n now (last_line part) steps
  last_held [] [] n now steps is h = h
  last_held [] (c ∷ cs) n now steps is h = absurd (one_held_of c cs is)
  last_held (b ∷ bs) [] n now steps is h = absurd (none_held_of b bs is)
  last_held (b ∷ bs) (c ∷ cs) n now steps is h = runs_alike Does n now (drop_cr (c ∷ cs)) (drop_cr (b ∷ bs)) [] [] steps (λ s. alike n now (b ∷ bs) (c ∷ cs) s is) (λ n now steps h. h) h

  none_held : (part held : List ℕ) (n : ℕ) (now : State) (steps : List Step) → IsHeld part held → RunsBy Does n now (no_line held) steps → RunsBy Does n now (no_line part) steps
  none_held part held n now steps is h = h

  module _ (last : List ℕ → List (List ℕ)) (left_held : (part held : List ℕ) (n : ℕ) (now : State) (steps : List Step) → IsHeld part held → RunsBy Does n now (last held) steps → RunsBy Does n now (last part) steps) where
    steps_held : (bytes part held : List ℕ) (n : ℕ) (now : State) (steps : List Step) → IsHeld part held → RunsBy Does n now (lines_held last held bytes) steps → RunsBy Does n now (lines_from last part bytes) steps
    steps_held [] part held n now steps is h = left_held part held n now steps is h
    steps_held (b ∷ bs) part held n now steps is h =
        elim (nat_eq b 10) as (λ t. RunsBy Does n now (cond t (drop_cr held ∷ lines_held last [] bs) (lines_held last (hold held b) bs)) steps
        → RunsBy Does n now (cond t (drop_cr part ∷ lines_from last [] bs) (lines_from last (part ++ b ∷ []) bs)) steps) [
          | true ↦ λ h. runs_alike Does n now (drop_cr held) (drop_cr part) (lines_held last [] bs) (lines_from last [] bs) steps (λ s. alike n now part held s is) (λ n now steps h. steps_held bs [] [] n now steps IsHeld-nothing h) h
          | false ↦ λ h. steps_held bs (part ++ b ∷ []) (hold held b) n now steps (IsHeld-push part held b is) h
        ] h

-- the lines that are held are of the version of the input's lines
last_says : (part held : List ℕ) → IsHeld part held → version_of (last_line held) ≡ version_of (last_line part)
last_says [] [] is = refl
last_says [] (c ∷ cs) is = absurd (one_held_of c cs is)
last_says (b ∷ bs) [] is = absurd (none_held_of b bs is)
last_says (b ∷ bs) (c ∷ cs) is = held_says (b ∷ bs) (c ∷ cs) is

module _ (last : List ℕ → List (List ℕ)) (left_says : (part held : List ℕ) → IsHeld part held → version_of (last held) ≡ version_of (last part)) where
  version_held : (bytes part held : List ℕ) → IsHeld part held → version_of (lines_held last held bytes) ≡ version_of (lines_from last part bytes)
  version_held [] part held is = left_says part held is
  version_held (b ∷ bs) part held is =
      elim (nat_eq b 10) as (λ t. version_of (cond t (drop_cr held ∷ lines_held last [] bs) (lines_held last (hold held b) bs)) ≡ version_of (cond t (drop_cr part ∷ lines_from last [] bs) (lines_from last (part ++ b ∷ []) bs))) [
        | true ↦ held_says part held is
        | false ↦ version_held bs (part ++ b ∷ []) (hold held b) (IsHeld-push part held b is)
      ]

-- so the lines that are held of a script do what its lines do, and what those do that are complete so far
module _ (shape : Shape) (how : Result Line Fault → Result Line Fault) where
  script_held : (bytes : List ℕ) (now : State) (steps : List Step) → RunsBy (ServesBy shape how (version_of (lines_held last_line [] bytes))) 1 now (lines_held last_line [] bytes) steps
      → RunsBy (ServesBy shape how (version_of (lines_of bytes))) 1 now (lines_of bytes) steps
  script_held bytes now steps h =
      let version = version_of (lines_of bytes) in
      steps_held (ServesBy shape how version) (script_alike shape how version) last_line (last_held (ServesBy shape how version) (script_alike shape how version)) bytes [] [] 1 now steps IsHeld-nothing
      (subst (λ v. RunsBy (ServesBy shape how v) 1 now (lines_held last_line [] bytes) steps) (version_held last_line last_says bytes [] [] IsHeld-nothing) h)

  script_ended : (read : List ℕ) (now : State) (steps : List Step) → RunsBy (ServesBy shape how (version_of (lines_held no_line [] read))) 1 now (lines_held no_line [] read) steps
      → RunsBy (ServesBy shape how (version_of (ended_lines read))) 1 now (ended_lines read) steps
  script_ended read now steps h =
      let version = version_of (ended_lines read) in
      steps_held (ServesBy shape how version) (script_alike shape how version) no_line (none_held (ServesBy shape how version) (script_alike shape how version)) read [] [] 1 now steps IsHeld-nothing
      (subst (λ v. RunsBy (ServesBy shape how v) 1 now (lines_held no_line [] read) steps) (version_held no_line (λ part held is. refl) read [] [] IsHeld-nothing) h)

-- and so do those of any input
pub input_held : (input : Input) (bytes : List ℕ) (now : State) (steps : List Step) → RunsOn input None 1 now (lines_held last_line [] bytes) steps → RunsOn input None 1 now (lines_of bytes) steps
input_held (Script form) bytes now steps h = script_held (of_script form) (λ r. r) bytes now steps h
input_held (Network shape) bytes now steps h = script_held shape loading bytes now steps h
input_held (Captures form) bytes now steps h =
    steps_held (ServesCapture form) (captures_alike form) last_line (last_held (ServesCapture form) (captures_alike form)) bytes [] [] 1 now steps IsHeld-nothing h

pub ended_held : (input : Input) (read : List ℕ) (now : State) (steps : List Step) → RunsOn input None 1 now (lines_held no_line [] read) steps → RunsOn input None 1 now (ended_lines read) steps
ended_held (Script form) read now steps h = script_ended (of_script form) (λ r. r) read now steps h
ended_held (Network shape) read now steps h = script_ended shape loading read now steps h
ended_held (Captures form) read now steps h =
    steps_held (ServesCapture form) (captures_alike form) no_line (none_held (ServesCapture form) (captures_alike form)) read [] [] 1 now steps IsHeld-nothing h
