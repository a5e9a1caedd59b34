-- What a saved network does, run as a script.
use Rattle.std.proofs.Common.{true≢false, ◌≡◌, ℕ, ◌+◌, ◌<◌, false, cond, nat_eq, List, [], ◌∷◌, Result, Ok, Err, refl, sym, ap, subst, ◌∙◌, arith}
use Rattle.std.proofs.lemmas.Grind.{common_steps}
use Rattle.std.proofs.lemmas.List.Sums.{sum_by-cons}
use Rattle.mst_lang.specs.Reading.{reading_as}
use Rattle.mst_lang.specs.declared.line.Fault.{Fault}
use Rattle.mst_lang.specs.declared.line.Line.{Line}
use Rattle.mst_lang.specs.declared.line.Line.TheVariants.{Blank, Mark, Edit as edit, Query as query}
use Rattle.mst_lang.specs.declared.line.Version.TheVariants.{V1, V2}
use Rattle.mst_net.specs.tables.Tables.{Net}
use Rattle.mst_report.specs.State.{State, empty_state}
use Rattle.mst_edits.specs.SaveText.{Makes, Leave, Restores}
use Rattle.mst_engine.specs.Script.{Serves, ServesRead, Runs, reading_at, version_said, edited}
use Rattle.mst_print.specs.Shape.{of_script}
use Rattle.mst_engine.specs.Steps.{Step, RunsBy, silent, left_by, texts_of, refusals_of, lacks_of}
use Rattle.mst_print.specs.declared.form.Form.{Form}
use Rattle.mst_engine.proofs.Steps.{runs-none, runs-first, no_more_lack}

-- steps that print nothing, of which none is refused, and which leave this network
record Quiet (now : State) (steps : List Step) (new : Net) : Type 0 where
  pub text : texts_of steps ≡ []
  pub refused : refusals_of steps ≡ 0
  pub lacking : lacks_of steps ≡ 0
  pub left : left_by now steps ≡ record now { net = new }

-- none of some is refused, and one before neither
quiet_first : (now : State) (next new : Net) (steps : List Step) → Quiet (record now { net = next }) steps new → Quiet now (silent (record now { net = next }) ∷ steps) new
quiet_first now next new steps q =
    let s = silent (record now { net = next }) in
    record {
      text = q.text;
      refused = sum_by-cons (λ (t : Step). cond t.refused 1 0) s steps ∙ omega (arith, q.refused);
      lacking = no_more_lack s steps refl q.lacking;
      left = q.left;
    }

-- a later line is read as it stands
reads_later : (number : ℕ) (line : List ℕ) → 1 < number → reading_at V2 number line ≡ reading_as V2 line
reads_later number line later = ap (λ t. cond t (Ok Blank) (reading_as V2 line)) (not_first number later)
  where
    not_first : (number : ℕ) → 1 < number → nat_eq number 1 ≡ false
    not_first number later = grind (arith, common_steps)

-- a line that makes a network prints nothing
makes_step : (form : Form) (number : ℕ) (now : State) (r : Result Line Fault) (new : Net) → Makes now.net r new → ServesRead (of_script form) number now r (silent (record now { net = new }))
makes_step form number now (Err f) new h = absurd h
makes_step form number now (Ok Blank) new h = absurd h
makes_step form number now (Ok Mark) new h = absurd h
makes_step form number now (Ok (query q)) new h = absurd h
makes_step form number now (Ok (edit e)) new h = (sym (ap (edited (of_script form) false number now) h), λ lacks. absurd (true≢false (sym lacks)))

leave_run : (form : Form) (number : ℕ) (now : State) (lines : List (List ℕ)) (new : Net) → 1 < number → Leave now.net lines new → (steps : List Step) × RunsBy (Serves form V2) number now lines steps × Quiet now steps new
leave_run form number now [] new later h =
    ([], runs-none (Serves form V2) number now, record { text = refl; refused = refl; lacking = refl; left = ap (λ net. record now { net = net }) h })
leave_run form number now (line ∷ lines) new later h =
    let next = record now { net = h.0 } in
    let rest = leave_run form (number + 1) next lines new (omega arith) h.2 in
    let made : ServesRead (of_script form) number now (reading_at V2 number line) (silent next) = subst (λ r. ServesRead (of_script form) number now r (silent next)) (sym (reads_later number line later)) (makes_step form number now (reading_as V2 line) h.0 h.1) in
    (silent next ∷ rest.0, runs-first (Serves form V2) number now line lines (silent next) rest.0 made rest.1, quiet_first now h.0 new rest.0 rest.2)

-- a script that restores a network has these steps
restores_run : (form : Form) (lines : List (List ℕ)) (new : Net) → Restores lines new → (steps : List Step) × Runs form lines steps × Quiet empty_state steps new
restores_run form [] new h = absurd h
restores_run form (first ∷ lines) new h =
    let said : version_said first ≡ V2 = ap (λ t. cond t V2 V1) h.0 in
    let rest = leave_run form 2 empty_state lines new (omega arith) h.1 in
    let steps = silent empty_state ∷ rest.0 in (
      steps,
      subst (λ v. RunsBy (Serves form v) 1 empty_state (first ∷ lines) steps) (sym said) (runs-first (Serves form V2) 1 empty_state first lines (silent empty_state) rest.0 refl rest.1),
      quiet_first empty_state empty_state.net new rest.0 rest.2,
    )

pub restored_run : (form : Form) (lines : List (List ℕ)) (new : Net) → Restores lines new
    → (steps : List Step) × Runs form lines steps × (texts_of steps ≡ []) × (refusals_of steps ≡ 0) × (lacks_of steps ≡ 0) × (left_by empty_state steps ≡ record empty_state { net = new })
restored_run form lines new h = let r = restores_run form lines new h in (r.0, r.1, r.2.text, r.2.refused, r.2.lacking, r.2.left)
