-- An engine that serves the lines of an input, as a job.
use Rattle.std.proofs.Common.{◌≡◌, ◌⊎◌, ℕ, ◌+◌, ◌<◌, ◌^◌, cond, List, [], ◌∷◌, ◌++◌, Option, None, refl, sym, ap, subst, ◌∙◌, arith, add-zero, append-nil, inl, inr}
use Rattle.std.proofs.lemmas.List.Sums.{sum_by-cons}
use Rattle.std.specs.Io.KnownBytes.{Appends}
use Rattle.mst_report.specs.Planned.{planned_state}
use Rattle.mst_report.specs.State.{State, IsState}
use Rattle.mst_lang.specs.Lines.{last_line, no_line}
use Rattle.mst_io.specs.Devices.{HearsWhere, Seen}
use Rattle.mst_io.specs.Held.{lines_held}
use Rattle.mst_io.specs.Written.{AppendsFront, Reads}
use Rattle.mst_io.proofs.Chains.{Hears-as}
use Rattle.mst_drive.specs.Driving.{Driven, DrivenEnded, DrivenFront, DrivenOn}
use Rattle.mst_drive.specs.Words.{HasTold, Wrote, WroteFront}
use Rattle.mst_engine.specs.Engine.{IsCounted, Tally, RunsOn, begun, does, outcome_of, tally_of, tallied}
use Rattle.mst_engine.specs.Served.{IsFew, Served, ServedEnded, Serves}
use Rattle.mst_engine.specs.Serving.{Awaits, Ends, Tells}
use Rattle.mst_engine.specs.Steps.{Step, left_by, texts_of, refusals_of, lacks_of, differing_of, answers_of}
use Rattle.mst_engine.specs.declared.engine.Engine.{Engine}
use Rattle.mst_engine.specs.declared.serving.Serving.{Serving}
use Rattle.mst_engine.proofs.Held.{input_held, ended_held}
use Rattle.mst_engine.proofs.Steps.{AlwaysRuns, on-first, on-none}

abbrev pub state_of : Serving → State
state_of job = planned_state job.engine.planner

-- before the first line
pub begins_awaiting : (t : Tally) (from : State) → t ≡ begun from → IsCounted t
begins_awaiting t from same = subst IsCounted (sym same) (record { refused = omega arith; memory = omega arith; differing = omega arith; answered = omega arith })

-- a line, and those behind it
pub line_told : (old : Serving) (e : Engine) (number : ℕ) (line said : List ℕ) (made : Step) → said ≡ made.text → old.engine.number ≡ number → does old.input old.engine.version old.engine.number (state_of old) line made → tally_of e ≡ tallied old.input (tally_of old.engine) line made
    → (others : List (List ℕ)) (more : List ℕ) (after : Serving) → Tells (record old { engine = e }) (number + 1) others more after → Tells old number (line ∷ others) (said ++ more) after
line_told old e number line said made is numbered served counted others more after h =
    let state : planned_state e.planner ≡ made.state = ap (λ (t : Tally). t.state) counted in
    record {
      steps = made ∷ h.steps;
      runs = on-first old.input old.engine.version number (state_of old) line others made h.steps (subst (λ n. does old.input old.engine.version n (state_of old) line made) numbered served)
          (subst (λ v. RunsOn old.input v (number + 1) made.state others h.steps) (ap (λ (t : Tally). t.version) counted) (subst (λ s. RunsOn old.input e.version (number + 1) s others h.steps) state h.runs));
      prints = λ i. is i ++ h.prints i;
      state = h.state ∙ ap (λ s. left_by s h.steps) state;
      refused = omega (arith, h.refused, ap (λ (t : Tally). t.refused) counted, sum_by-cons (λ (s : Step). cond s.refused 1 0) made h.steps);
      memory = omega (arith, h.memory, ap (λ (t : Tally). t.memory) counted, sum_by-cons (λ (s : Step). cond s.lacking 1 0) made h.steps);
      differing = omega (arith, h.differing, ap (λ (t : Tally). t.differing) counted, sum_by-cons (λ (s : Step). cond s.differs 1 0) made h.steps);
      answered = omega (arith, h.answered, ap (λ (t : Tally). t.answered) counted, sum_by-cons (λ (s : Step). cond s.answers 1 0) made h.steps);
    }

pub none_told : (old : Serving) (number : ℕ) → Tells old number [] [] old
none_told old number = record {
  steps = [];
  runs = on-none old.input old.engine.version number (state_of old);
  prints = refl;
  state = refl;
  refused = sym (add-zero old.engine.refused);
  memory = sym (add-zero old.engine.memory);
  differing = sym (add-zero old.engine.differing);
  answered = sym (add-zero old.engine.answered);
}

-- what the job is after these steps
abbrev after_steps : Serving → List Step → Serving
after_steps old steps =
    let new = left_by (state_of old) steps in
    let planner = record old.engine.planner { contents = record old.engine.planner.contents { net = new.net }; mark = new.mark } in
    record old {
      engine = record old.engine {
        planner = planner;
        refused = old.engine.refused + refusals_of steps;
        memory = old.engine.memory + lacks_of steps;
        differing = old.engine.differing + differing_of steps;
        answered = old.engine.answered + answers_of steps;
      };
    }

pub some_told : AlwaysRuns → (old : Serving) (number : ℕ) → IsState (state_of old) → (lines : List (List ℕ)) → (text : List ℕ) × (after : Serving) × Tells old number lines text after
some_told always old number is lines =
    let r = always old.input old.engine.version number (state_of old) lines is in
    (texts_of r.0, after_steps old r.0, record { steps = r.0; runs = r.1; prints = refl; state = refl; refused = refl; memory = refl; differing = refl; answered = refl })

pub few_told : (e : Engine) (number : ℕ) → IsCounted (tally_of e) → e.number ≡ number → number < 2 ^ 60 → IsFew (outcome_of (tally_of e))
few_told e number counted is few = record { refused = omega (arith, counted.refused, is, few); memory = omega (arith, counted.memory, is, few); differing = omega (arith, counted.differing, is, few) }

module _ (old : Serving) (begins : tally_of old.engine ≡ begun (state_of old)) (reads left written now : Option (List ℕ)) where
  first_runs : (lines : List (List ℕ)) (steps : List Step) → RunsOn old.input old.engine.version 1 (state_of old) lines steps → RunsOn old.input None 1 (state_of old) lines steps
  first_runs lines steps h = subst (λ v. RunsOn old.input v 1 (state_of old) lines steps) (ap (λ (t : Tally). t.version) begins) h

  -- what the lines print, by the job that they leave
  told_served : (bytes text : List ℕ) (job : Serving) → Tells old 1 (lines_held last_line [] bytes) text job → Reads reads bytes → Served old.input (state_of old) reads text (tally_of job.engine)
  told_served bytes text job t read = record {
    bytes = bytes;
    steps = t.steps;
    read = read;
    runs = input_held old.input bytes (state_of old) t.steps (first_runs (lines_held last_line [] bytes) t.steps t.runs);
    printed = t.prints;
    state = t.state;
    memory = t.memory ∙ omega (arith, ap (λ (u : Tally). u.memory) begins);
    refused = t.refused ∙ omega (arith, ap (λ (u : Tally). u.refused) begins);
    differing = t.differing ∙ omega (arith, ap (λ (u : Tally). u.differing) begins);
    answered = t.answered ∙ omega (arith, ap (λ (u : Tally). u.answered) begins);
  }

  pub served_front : DrivenFront Tells Ends old reads written now → WroteFront written now (Serves old.input (state_of old) reads)
  served_front d = (d.text, (tally_of d.job.engine, told_served d.bytes d.text d.job d.told d.read), by d.front)
    where
      by : AppendsFront written now d.text ⊎ ((number : ℕ) × (said : List ℕ) × (after : Serving) × Ends d.job number said after × AppendsFront written now (d.text ++ said)) → AppendsFront written now d.text
      by (inl front) = front
      by (inr h) = subst (AppendsFront written now) (ap (λ s. d.text ++ s) (h.3).0 ∙ append-nil d.text) h.4

  pub served_ended : DrivenEnded Tells old reads left written now → Wrote written now (ServedEnded old.input (state_of old) reads left)
  served_ended d =
      let t = d.told in (
        d.text,
        record {
          read = d.read;
          steps = t.steps;
          consumed = d.consumed;
          runs = ended_held old.input d.read (state_of old) t.steps (first_runs (lines_held no_line [] d.read) t.steps t.runs);
          printed = t.prints;
        },
        d.printed,
      )

  pub served : (new : Serving) → Driven Awaits Tells Ends old new reads written now → Wrote written now (λ text. Served old.input (state_of old) reads text (tally_of new.engine))
  served new d = (
    d.text,
    subst (λ (j : Serving). Served old.input (state_of old) reads d.text (tally_of j.engine)) (sym (d.ended).1) (told_served d.bytes d.text d.job d.told d.read),
    subst (Appends written now) (ap (λ s. d.text ++ s) (d.ended).0 ∙ append-nil d.text) d.printed,
  )

  pub served_few : (new : Serving) → Driven Awaits Tells Ends old new reads written now → IsFew (outcome_of (tally_of new.engine))
  served_few new d = subst (λ (j : Serving). IsFew (outcome_of (tally_of j.engine))) (sym (d.ended).1) (few_told d.job.engine d.number d.waits.counted d.waits.numbered d.few)

-- what has gone out before each call of the source
pub told_served_on : {S : Type 0} (does : S → S → List ℕ → Seen → Type 0) (remaining : S → Option (List ℕ)) (old : Serving) → tally_of old.engine ≡ begun (state_of old) → (reads : Option (List ℕ)) (before : Seen) (from now : S)
    → HearsWhere does (DrivenOn Tells old reads remaining before) from now → HearsWhere does (HasTold (ServedEnded old.input (state_of old) reads) remaining before) from now
told_served_on does remaining old begins reads before from now calls =
    Hears-as does (DrivenOn Tells old reads remaining before) (HasTold (ServedEnded old.input (state_of old) reads) remaining before) (λ source sink h. (h.0, served_ended old begins reads (remaining source) before.bytes sink.bytes h.1)) from now calls
