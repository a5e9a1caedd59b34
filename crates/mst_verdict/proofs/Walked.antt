-- The steps of a change, one after another.
use Rattle.std.proofs.Common.{◌≡◌, ℕ, ◌+◌, ◌-◌, ◌<◌, ◌≤◌, Bool, true, false, List, [], ◌∷◌, ◌++◌, length, length-append, take, get_or, refl, sym, ap, subst, ◌∙◌, arith, append-nil}
use Rattle.std.specs.List.{AllZip, count_by, flat_map}
use Rattle.std.proofs.lemmas.Grind.{flat_map-append}
use Rattle.std.proofs.lemmas.List.{length-take-le, take_more}
use Rattle.std.proofs.lemmas.List.Folds.{length-flat_map-take}
use Rattle.std.proofs.lemmas.List.Sums.{sum_by-append, sum_by-cons}
use Rattle.mst_net.specs.tables.Tables.{Net}
use Rattle.mst_rows.specs.Rows.{Row}
use Rattle.mst_change.specs.Reading.{LineRead}
use Rattle.mst_change.specs.Steps.{all_lines}
use Rattle.mst_policy.specs.declared.policy.PolicyLine.{PolicyLine}
use Rattle.mst_telling.specs.Steps.{breaks}
use Rattle.mst_verdict.specs.Setting.{after_lines, after_steps}
use Rattle.mst_verdict.specs.Stepping.{AreRowsIn, IsFew, IsStepTold, StepTold, Watch, changes_in, course_of, rows_told, step_made, steps_made}
use Rattle.mst_verdict.specs.Taking.{AreSteps, IsTaken, TakesStep, TakesSteps, course_with, one_if}
use Rattle.mst_verdict.specs.declared.stepping.Course.{Course}
use Rattle.mst_verdict.specs.declared.stepping.Taken.{Taken}

-- ---- one step more
pub after_step : (net : Net) (steps : List (List LineRead)) (lines : List LineRead) → after_steps net (steps ++ lines ∷ []) ≡ after_lines (after_steps net steps) lines
after_step net [] lines = refl
after_step net (one ∷ steps) lines = after_step (after_lines net one) steps lines

made_more : (n : ℕ) (net : Net) (steps : List (List LineRead)) (lines : List LineRead) → steps_made n net (steps ++ lines ∷ []) ≡ steps_made n net steps ++ step_made (n + length steps) (after_steps net steps) lines ∷ []
made_more n net [] lines = ap (λ k. step_made k net lines ∷ []) (omega arith)
made_more n net (one ∷ steps) lines =
    ap (λ l. step_made n net one ∷ l) (made_more (n + 1) (after_lines net one) steps lines
    ∙ ap (λ k. steps_made (n + 1) (after_lines net one) steps ++ step_made k (after_steps (after_lines net one) steps) lines ∷ []) (omega arith))

zip_one : {A B : Type 0} (R : A → B → Type 0) (xs : List A) (x : A) (ys : List B) (y : B) → AllZip R xs ys → R x y → AllZip R (xs ++ x ∷ []) (ys ++ y ∷ [])
zip_one R [] x [] y h r = (r, tt)
zip_one R [] x (z ∷ zs) y h r = absurd h
zip_one R (w ∷ ws) x [] y h r = absurd h
zip_one R (w ∷ ws) x (z ∷ zs) y h r = (h.0, zip_one R ws x zs y h.1 r)

count_one : {A : Type 0} (test : A → Bool) (xs : List A) (x : A) → count_by test (xs ++ x ∷ []) ≡ count_by test xs + one_if (test x)
count_one test xs x = sum_by-append (λ y. one_if (test y)) xs (x ∷ []) ∙ ap (λ n. count_by test xs + n) (sum_by-cons (λ y. one_if (test y)) x [] ∙ omega arith)

flat_one : {X Y : Type 0} (f : X → List Y) (xs : List X) (x : X) → flat_map f (xs ++ x ∷ []) ≡ flat_map f xs ++ f x
flat_one f xs x = flat_map-append f xs (x ∷ []) ∙ ap (λ more. flat_map f xs ++ more) (append-nil (f x))

-- what is counted of one step more
course_more : (lines : List PolicyLine) (told : List StepTold) (t : StepTold) (taken : Taken) → IsTaken lines t taken → course_with (course_of lines 0 told []) taken ≡ course_of lines 0 (told ++ t ∷ []) []
course_more lines told t taken is =
    let breaking : StepTold → Bool = λ t. breaks (changes_in lines t) in
    let refused : length (flat_map (λ (t : StepTold). t.refused) told) + taken.refused ≡ length (flat_map (λ (t : StepTold). t.refused) (told ++ t ∷ [])) =
    omega (arith, is.refused, length-append (flat_map (λ (t : StepTold). t.refused) told) t.refused, ap length (flat_one (λ (t : StepTold). t.refused) told t)) in
    let steps : length told + 1 ≡ length (told ++ t ∷ []) = omega (arith, length-append told (t ∷ [])) in
    let moving : count_by (λ (t : StepTold). t.does.moves) told + one_if taken.does.moves ≡ count_by (λ (t : StepTold). t.does.moves) (told ++ t ∷ []) =
    ap (λ b. count_by (λ (t : StepTold). t.does.moves) told + one_if b) (λ j. (is.does j).moves) ∙ sym (count_one (λ (t : StepTold). t.does.moves) told t) in
    let cutting : count_by (λ (t : StepTold). t.does.cuts) told + one_if taken.does.cuts ≡ count_by (λ (t : StepTold). t.does.cuts) (told ++ t ∷ []) =
    ap (λ b. count_by (λ (t : StepTold). t.does.cuts) told + one_if b) (λ j. (is.does j).cuts) ∙ sym (count_one (λ (t : StepTold). t.does.cuts) told t) in
    let failing : count_by breaking told + one_if taken.breaks ≡ count_by breaking (told ++ t ∷ []) = ap (λ b. count_by breaking told + one_if b) is.breaks ∙ sym (count_one breaking told t) in
    λ j. record { unread = 0; refused = refused j; steps = steps j; moving = moving j; cutting = cutting j; failing = failing j; unkept = 0 }

-- ---- no more than there are
one_few : (b : Bool) → one_if b ≤ 1
one_few true = omega arith
one_few false = omega arith

pub few_none : (lines : List PolicyLine) → IsFew (course_of lines 0 [] []) []
few_none lines = record { refused = omega arith; steps = refl; moving = omega arith; cutting = omega arith; failing = omega arith }

few_one : (steps : List (List LineRead)) (lines : List LineRead) (course : Course) (taken : Taken) → IsFew course steps → taken.refused ≤ length lines → IsFew (course_with course taken) (steps ++ lines ∷ [])
few_one steps lines course taken few more =
    let all : length (all_lines (steps ++ lines ∷ [])) ≡ length (all_lines steps) + length lines = ap length (flat_one (λ (l : List LineRead). l) steps lines) ∙ length-append (all_lines steps) lines in
    let longer : length (steps ++ lines ∷ []) ≡ length steps + 1 = length-append steps (lines ∷ []) in
    record {
      refused = omega (arith, few.refused, more, all);
      steps = omega (arith, few.steps, longer);
      moving = omega (arith, few.moving, one_few taken.does.moves, longer);
      cutting = omega (arith, few.cutting, one_few taken.does.cuts, longer);
      failing = omega (arith, few.failing, one_few taken.breaks, longer);
    }

-- ---- some steps, and one more
module _ (w : Watch) where
  pub no_steps : AreSteps w [] (course_of w.lines 0 [] []) []
  no_steps = record { told = []; each = tt; counted = refl; are = refl }

  more_steps : (steps : List (List LineRead)) (lines : List LineRead) (course : Course) (rows : List Row) → AreSteps w steps course rows → course.steps ≡ length steps → (told : StepTold) (taken : Taken)
      → IsStepTold w (step_made (course.steps + 1) (after_steps w.first steps) lines) told → IsTaken w.lines told taken → AreSteps w (steps ++ lines ∷ []) (course_with course taken) (rows ++ rows_told w.lines told)
  more_steps steps lines course rows so_far count told taken is counted =
      let number : course.steps + 1 ≡ 1 + length steps = omega (arith, count) in
      record {
        told = so_far.told ++ told ∷ [];
        each = subst (λ l. AllZip (IsStepTold w) l (so_far.told ++ told ∷ [])) (sym (made_more 1 w.first steps lines))
            (zip_one (IsStepTold w) (steps_made 1 w.first steps) (step_made (1 + length steps) (after_steps w.first steps) lines) so_far.told told so_far.each
            (subst (λ k. IsStepTold w (step_made k (after_steps w.first steps) lines) told) number is));
        counted = ap (λ c. course_with c taken) so_far.counted ∙ course_more w.lines so_far.told told taken counted;
        are = ap (λ l. l ++ rows_told w.lines told) so_far.are ∙ sym (flat_one (rows_told w.lines) so_far.told told);
      }

  -- nothing was taken yet
  pub takes_none : (now : List (List Row)) (Put : List Row → Type 0) → AreRowsIn w 0 w.first now → Put [] → TakesSteps w [] now (course_of w.lines 0 [] []) Put
  takes_none now Put judged put = record { rows = []; are = no_steps; judged = judged; put = put }

-- at a place of them
module _ (steps : List (List LineRead)) (i : ℕ) (step : List LineRead) (below : i < length steps) (is : step ≡ get_or steps i step) (lines : List LineRead) (e : lines ≡ step) where
  steps_taken : take (i + 1) steps ≡ take i steps ++ lines ∷ []
  steps_taken = take_more steps i step below ∙ ap (λ z. take i steps ++ z ∷ []) (sym is ∙ sym e)

  pub net_more : (net here : Net) → here ≡ after_steps net (take i steps) → after_lines here lines ≡ after_steps net (take (i + 1) steps)
  net_more net here so = ap (λ n. after_lines n lines) so ∙ sym (after_step net (take i steps) lines) ∙ ap (after_steps net) (sym steps_taken)

  -- so many are counted then
  module _ (course : Course) (few : IsFew course (take i steps)) where
    pub steps_counted : course.steps ≡ i
    steps_counted = few.steps ∙ length-take-le i steps (omega (arith, below))

    pub few_more : (taken : Taken) → taken.refused ≤ length lines → IsFew (course_with course taken) (take (i + 1) steps)
    few_more taken more = subst (IsFew (course_with course taken)) (sym steps_taken) (few_one (take i steps) lines course taken few more)

    pub refused_counted : (taken : Taken) → taken.refused ≤ length lines → course.refused + taken.refused ≤ length (all_lines steps)
    refused_counted taken more = omega (arith, few.refused, more, ap length e, ap length is, length-flat_map-take (λ (l : List LineRead). l) steps i step below)

    -- the policy's rows of the network before the step
    pub judged_here : (w : Watch) (here : Net) → here ≡ after_steps w.first (take i steps) → (rows : List (List Row)) → AreRowsIn w (length (take i steps)) (after_steps w.first (take i steps)) rows → AreRowsIn w (course.steps + 1 - 1) here rows
    judged_here w here so rows judged =
        let number : length (take i steps) ≡ course.steps + 1 - 1 = omega (arith, few.steps) in subst (λ net. AreRowsIn w (course.steps + 1 - 1) net rows) (sym so) (subst (λ n. AreRowsIn w n (after_steps w.first (take i steps)) rows) number judged)

    -- the step was taken, too
    pub takes_more : (w : Watch) (here : Net) → here ≡ after_steps w.first (take i steps) → (before now : List (List Row)) (taken : Taken) (Was Then Put : List Row → Type 0) → ((rows own : List Row) → Was rows → Then own → Put (rows ++ own))
        → TakesSteps w (take i steps) before course Was → TakesStep w (course.steps + 1) here lines before now taken Then → TakesSteps w (take (i + 1) steps) now (course_with course taken) Put
    takes_more w here so before now taken Was Then Put both was one =
        let number : course.steps + 1 ≡ length (take (i + 1) steps) = sym (ap length steps_taken ∙ length-append (take i steps) (lines ∷ []) ∙ omega (arith, few.steps)) in
        record {
          rows = was.rows ++ rows_told w.lines one.told;
          are = subst (λ l. AreSteps w l (course_with course taken) (was.rows ++ rows_told w.lines one.told)) (sym steps_taken)
              (more_steps w (take i steps) lines course was.rows was.are few.steps one.told taken (subst (λ net. IsStepTold w (step_made (course.steps + 1) net lines) one.told) so one.is) one.counted);
          judged = subst (λ rows. AreRowsIn w (length (take (i + 1) steps)) (after_steps w.first (take (i + 1) steps)) rows) one.follows
              (subst (λ net. AreRowsIn w (length (take (i + 1) steps)) net one.told.now) (net_more w.first here so) (subst (λ n. AreRowsIn w n (after_lines here lines) one.told.now) number one.is.judged_now));
          put = both was.rows (rows_told w.lines one.told) was.put one.put;
        }
