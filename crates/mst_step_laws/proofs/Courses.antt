-- What the steps of a change do is one thing.
use Rattle.std.proofs.Common.{◌≡◌, ◌==◌, ℕ, ◌+◌, ◌-◌, Bool, true, false, if◌then◌else◌, List, [], ◌∷◌, ◌++◌, length, Option, Some, None, Result, Ok, Err, refl, sym, subst, ◌∙◌}
use Rattle.std.specs.Prelude.{MatchOption, ⊤}
use Rattle.std.specs.List.{AllByRecursion, AllZip, flat_map}
use Rattle.mst_change.specs.Reading.{IsInRange, LineRead, SaysInRange}
use Rattle.mst_change.specs.Steps.{all_lines}
use Rattle.mst_lang.specs.Ranges.{InRange}
use Rattle.mst_lang.specs.declared.line.Edit.{Edit}
use Rattle.mst_lang.specs.declared.line.Fault.{Fault}
use Rattle.mst_net.specs.tables.After.{after}
use Rattle.mst_net.specs.tables.Tables.{IsNetwork, Net}
use Rattle.mst_net.specs.tables.declared.refusal.Refusal.{Refusal}
use Rattle.mst_forest.specs.Outcome.{IsOutcome, Outcome}
use Rattle.mst_policy.specs.Leaving.{Leaving, leaving_of}
use Rattle.mst_policy.specs.declared.policy.PolicyLine.{PolicyLine}
use Rattle.mst_rows.specs.Rows.{Row}
use Rattle.mst_verdict.specs.sweeping.StepText.{AreStepRows}
use Rattle.mst_verdict.specs.sweeping.declared.step.Deed.{Deed}
use Rattle.mst_verdict.specs.sweeping.declared.step.Deed.TheVariants as deed
use Rattle.mst_verdict.specs.sweeping.declared.step.Stepped.{Stepped}
use Rattle.mst_verdict.specs.reasons.Named.{Prior}
use Rattle.mst_verdict.specs.telling.Steps.{start_rows}
use Rattle.mst_verdict.specs.Setting.{after_lines, after_steps, kept_or, set_by}
use Rattle.mst_verdict.specs.Stepping.{AreRowsIn, AreWatched, IsStepTold, StepMade, StepTold, Steps, Watch, course_of, course_row, front_rows_if, lines_of, numbers_of, prior_at, rows_told, step_made, steps_made, watch_of}
use Rattle.mst_verdict.specs.Verifying.{IsPriorNetwork, Judges}
use Rattle.mst_verdict.specs.declared.stepping.Course.{Course}

-- ---- lines one after another
pub steps_then : (net : Net) (steps others : List (List LineRead)) → after_steps net (steps ++ others) ≡ after_steps (after_steps net steps) others
steps_then net [] others = refl
steps_then net (lines ∷ steps) others = steps_then (after_lines net lines) steps others

lines_then : (net : Net) (xs ys : List LineRead) → after_lines net (xs ++ ys) ≡ after_lines (after_lines net xs) ys
lines_then net [] ys = refl
lines_then net (x ∷ xs) ys = lines_then (set_by net x.read) xs ys

pub steps_lines : (net : Net) (steps : List (List LineRead)) → after_steps net steps ≡ after_lines net (all_lines steps)
steps_lines net [] = refl
steps_lines net (lines ∷ steps) = steps_lines (after_lines net lines) steps ∙ sym (lines_then net lines (all_lines steps))

pub lines_behind : (net : Net) (script : List LineRead) (steps : List (List LineRead)) → after_steps (after_lines net script) steps ≡ after_lines net (script ++ all_lines steps)
lines_behind net script steps = steps_lines (after_lines net script) steps ∙ sym (lines_then net script (all_lines steps))

-- ---- networks
pub all_first : {A : Type 0} (P : A → Type 0) (xs ys : List A) → AllByRecursion P (xs ++ ys) → AllByRecursion P xs
all_first P [] ys h = tt
all_first P (x ∷ xs) ys h = (h.0, all_first P xs ys h.1)

pub all_others : {A : Type 0} (P : A → Type 0) (xs ys : List A) → AllByRecursion P (xs ++ ys) → AllByRecursion P ys
all_others P [] ys h = h
all_others P (x ∷ xs) ys h = all_others P xs ys h.1

module _ (stay : (edit : Edit) (net new : Net) → InRange edit → IsNetwork net → after edit net ≡ Ok new → IsNetwork new) where
  kept_network : (edit : Edit) (net : Net) → InRange edit → IsNetwork net → (made : Result Net Refusal) → after edit net ≡ made → IsNetwork (kept_or net made)
  kept_network edit net fits is (Ok new) e = stay edit net new fits is e
  kept_network edit net fits is (Err refused) e = is

  read_network : (net : Net) (read : Result Edit Fault) → SaysInRange read → IsNetwork net → IsNetwork (set_by net read)
  read_network net (Err fault) fits is = is
  read_network net (Ok edit) fits is = kept_network edit net fits is (after edit net) refl

  pub lines_network : (net : Net) (lines : List LineRead) → AllByRecursion IsInRange lines → IsNetwork net → IsNetwork (after_lines net lines)
  lines_network net [] fit is = is
  lines_network net (line ∷ lines) fit is = lines_network (set_by net line.read) lines fit.1 (read_network net line.read fit.0 is)

  pub steps_network : (net : Net) (steps : List (List LineRead)) → AllByRecursion IsInRange (all_lines steps) → IsNetwork net → IsNetwork (after_steps net steps)
  steps_network net steps fit is = subst IsNetwork (sym (steps_lines net steps)) (lines_network net (all_lines steps) fit is)

  -- what is before a network of a change
  pub if_before : (b : Bool) (prior : Net × Outcome) → IsNetwork prior.0 → IsOutcome prior.0 prior.1 → MatchOption (if b then None else Some prior) ⊤ (λ before. IsNetwork before.0 × IsOutcome before.0 before.1)
  if_before true prior is settled = tt
  if_before false prior is settled = (is, settled)

  -- ---- what is told of a policy
  module _ (judged : (net : Net) (prior : Prior) (is_last : Bool) (lines : List PolicyLine) (told other : List (List Row)) → IsNetwork net → IsPriorNetwork prior
      → Judges net prior is_last lines told → Judges net prior is_last lines other → told ≡ other) where
    module _ (w : Watch) (first : IsNetwork w.first) (settled : IsOutcome w.first w.outcome) where
      pub one_judged : (n : ℕ) (net : Net) (rows other : List (List Row)) → IsNetwork net → AreRowsIn w n net rows → AreRowsIn w n net other → rows ≡ other
      one_judged n net rows other is x y = judged net (prior_at w n) (n == w.last) w.lines rows other is (if_before (n == 0) (w.first, w.outcome) first settled) x y

      -- ---- what is told of a step
      module _ (one : (a b : Net) (o p q r : Outcome) → IsNetwork a → IsNetwork b → IsOutcome a o → IsOutcome b p → IsOutcome a q → IsOutcome b r
          → (leaving : Leaving) (step : Deed) (rows other : List Row) (told said : Stepped) → AreStepRows leaving a o b p step rows told → AreStepRows leaving a q b r step other said → (rows ≡ other) × (told ≡ said)) where
        one_told : (s : StepMade) (t u : StepTold) → IsNetwork s.before → IsNetwork s.now → IsStepTold w s t → IsStepTold w s u → t ≡ u
        one_told s t u before now x y =
            let number : t.number ≡ u.number = x.number ∙ sym y.number in
            let refused : t.refused ≡ u.refused = x.refused ∙ sym y.refused in
            let same = one s.before s.now x.before x.now y.before y.now before now x.is_before x.is_now y.is_before y.is_now (leaving_of w.lines) (deed.Step (numbers_of s.number s.lines)) t.own u.own t.does u.does x.own y.own in
            let was : t.before ≡ u.before = one_judged (s.number - 1) s.before t.before u.before before x.judged_before y.judged_before in
            let is : t.now ≡ u.now = one_judged s.number s.now t.now u.now now x.judged_now y.judged_now in
            λ i. record { number = number i; refused = refused i; own = same.0 i; does = same.1 i; before = was i; now = is i }

        pub one_list : (n : ℕ) (net : Net) (steps : List (List LineRead)) (told said : List StepTold) → IsNetwork net → AllByRecursion IsInRange (all_lines steps)
            → AllZip (IsStepTold w) (steps_made n net steps) told → AllZip (IsStepTold w) (steps_made n net steps) said → told ≡ said
        one_list n net [] [] [] is fit x y = refl
        one_list n net [] [] (u ∷ said) is fit x y = absurd y
        one_list n net [] (t ∷ told) said is fit x y = absurd x
        one_list n net (lines ∷ steps) [] said is fit x y = absurd x
        one_list n net (lines ∷ steps) (t ∷ told) [] is fit x y = absurd y
        one_list n net (lines ∷ steps) (t ∷ told) (u ∷ said) is fit x y =
            let now = lines_network net lines (all_first IsInRange lines (all_lines steps) fit) is in
            λ i. one_told (step_made n net lines) t u is now x.0 y.0 i ∷ one_list (n + 1) (after_lines net lines) steps told said now (all_others IsInRange lines (all_lines steps) fit) x.1 y.1 i

    -- ---- and of all of them
    module _ (one : (a b : Net) (o p q r : Outcome) → IsNetwork a → IsNetwork b → IsOutcome a o → IsOutcome b p → IsOutcome a q → IsOutcome b r
        → (leaving : Leaving) (step : Deed) (rows other : List Row) (told said : Stepped) → AreStepRows leaving a o b p step rows told → AreStepRows leaving a q b r step other said → (rows ≡ other) × (told ≡ said))
        (settling : (net : Net) (o p : Outcome) → IsNetwork net → IsOutcome net o → IsOutcome net p → o ≡ p) where
      one_watched : (net : Net) (steps : List (List LineRead)) (lines : List PolicyLine) (unread : ℕ) (c d : Course) (rows other : List Row) → IsNetwork net → AllByRecursion IsInRange (all_lines steps)
          → AreWatched net steps lines unread c rows → AreWatched net steps lines unread d other → (c ≡ d) × (rows ≡ other)
      one_watched net steps lines unread c d rows other is fit x y =
          let w = watch_of net x.outcome steps lines in
          let o : y.outcome ≡ x.outcome = settling net y.outcome x.outcome is y.is_outcome x.is_outcome in
          let start : x.start ≡ y.start = one_judged w is x.is_outcome 0 net x.start y.start is x.judged_start (subst (λ (o : Outcome). AreRowsIn (watch_of net o steps lines) 0 net y.start) o y.judged_start) in
          let last : x.last ≡ y.last = one_judged w is x.is_outcome (length steps) (after_steps net steps) x.last y.last (steps_network net steps fit is) x.judged_last
          (subst (λ (o : Outcome). AreRowsIn (watch_of net o steps lines) (length steps) (after_steps net steps) y.last) o y.judged_last) in
          let told : x.told ≡ y.told = one_list w is x.is_outcome one 1 net steps x.told y.told is fit x.each (subst (λ (o : Outcome). AllZip (IsStepTold (watch_of net o steps lines)) (steps_made 1 net steps) y.told) o y.each) in
          let course : c ≡ d = x.counted ∙ (λ i. course_of lines unread (told i) (last i)) ∙ sym y.counted in
          (course, x.are ∙ (λ i. start_rows lines (start i) ++ flat_map (rows_told lines) (told i)) ∙ sym y.are)

      pub one_course : (net : Net) (steps : List (List LineRead)) (policy : Option (List PolicyLine)) (c d : Course) (rows other : List Row) → IsNetwork net → AllByRecursion IsInRange (all_lines steps)
          → Steps net steps policy c rows → Steps net steps policy d other → (c ≡ d) × (rows ≡ other)
      one_course net steps policy c d rows other is fit x y =
          let each = one_watched net steps (lines_of policy) (length (front_rows_if policy)) c d x.each y.each is fit x.are_each y.are_each in
          (each.0, x.are ∙ (λ i. front_rows_if policy ++ each.1 i ++ course_row policy (each.0 i) ∷ []) ∙ sym y.are)
