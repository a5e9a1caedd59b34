-- There are rows of what the steps of a change do.
use Rattle.std.proofs.Common.{◌≡◌, ◌==◌, ℕ, ◌+◌, ◌-◌, Bool, List, [], ◌∷◌, ◌++◌, length, Option, Ok, refl}
use Rattle.std.specs.List.{AllByRecursion, AllZip, flat_map}
use Rattle.mst_change.specs.Reading.{IsInRange, LineRead}
use Rattle.mst_change.specs.Steps.{all_lines}
use Rattle.mst_lang.specs.Ranges.{InRange}
use Rattle.mst_lang.specs.declared.line.Edit.{Edit}
use Rattle.mst_net.specs.tables.After.{after}
use Rattle.mst_net.specs.tables.Tables.{IsNetwork, Net}
use Rattle.mst_policy.specs.Leaving.{leaving_of}
use Rattle.mst_policy.specs.declared.policy.PolicyLine.{PolicyLine}
use Rattle.mst_rows.specs.Rows.{Row}
use Rattle.mst_forest.specs.Outcome.{IsOutcome, Outcome}
use Rattle.mst_verdict.specs.sweeping.declared.step.Deed.TheVariants as deed
use Rattle.mst_verdict.specs.reasons.Named.{Prior}
use Rattle.mst_verdict.specs.telling.Steps.{start_rows}
use Rattle.mst_verdict.specs.Setting.{after_lines, after_steps, refused_lines}
use Rattle.mst_verdict.specs.Stepping.{AreRowsIn, AreWatched, IsStepTold, StepMade, StepTold, Steps, Watch, course_of, course_row, front_rows_if, lines_of, numbers_of, prior_at, rows_told, step_made, steps_made, watch_of}
use Rattle.mst_verdict.specs.Verifying.{IsPriorNetwork, Judges}
use Rattle.mst_verdict.specs.declared.stepping.Course.{Course}
use Rattle.mst_step_laws.proofs.Courses.{all_first, all_others, if_before, lines_network, steps_network}
use Rattle.mst_step_laws.proofs.StepThere.{HasGroups, HasIslands, has_step}

module _ (stay : (edit : Edit) (net new : Net) → InRange edit → IsNetwork net → after edit net ≡ Ok new → IsNetwork new)
    (settled : (net : Net) → IsNetwork net → (o : Outcome) × IsOutcome net o)
    (islands : (net : Net) (o : Outcome) → IsNetwork net → HasIslands net o)
    (grouping : HasGroups)
    (judged : (net : Net) (prior : Prior) (is_last : Bool) (lines : List PolicyLine) → IsNetwork net → IsPriorNetwork prior → (told : List (List Row)) × Judges net prior is_last lines told) where
  module _ (w : Watch) (first : IsNetwork w.first) (first_settled : IsOutcome w.first w.outcome) where
    -- the rows of a policy's lines
    some_judged : (n : ℕ) (net : Net) → IsNetwork net → (rows : List (List Row)) × AreRowsIn w n net rows
    some_judged n net is = judged net (prior_at w n) (n == w.last) w.lines is (if_before stay (n == 0) (w.first, w.outcome) first first_settled)

    some_told : (s : StepMade) → IsNetwork s.before → IsNetwork s.now → (t : StepTold) × IsStepTold w s t
    some_told s before now =
        let o = settled s.before before in
        let p = settled s.now now in
        let own = has_step s.before s.now o.0 p.0 (islands s.before o.0 before) (islands s.now p.0 now) grouping (leaving_of w.lines) (deed.Step (numbers_of s.number s.lines)) in
        let was = some_judged (s.number - 1) s.before before in
        let is = some_judged s.number s.now now in (
          record { number = s.number; refused = refused_lines s.number s.before s.lines; own = own.0; does = own.1; before = was.0; now = is.0 },
          record { before = o.0; is_before = o.1; now = p.0; is_now = p.1; number = refl; refused = refl; own = own.2; judged_before = was.1; judged_now = is.1 },
        )

    some_list : (n : ℕ) (net : Net) (steps : List (List LineRead)) → IsNetwork net → AllByRecursion IsInRange (all_lines steps) → (told : List StepTold) × AllZip (IsStepTold w) (steps_made n net steps) told
    some_list n net [] is fit = ([], tt)
    some_list n net (lines ∷ steps) is fit =
        let now = lines_network stay net lines (all_first IsInRange lines (all_lines steps) fit) is in
        let first = some_told (step_made n net lines) is now in
        let others = some_list (n + 1) (after_lines net lines) steps now (all_others IsInRange lines (all_lines steps) fit) in
        (first.0 ∷ others.0, (first.1, others.1))

  has_watched : (net : Net) (steps : List (List LineRead)) (lines : List PolicyLine) (unread : ℕ) → IsNetwork net → AllByRecursion IsInRange (all_lines steps) → (c : Course) × (rows : List Row) × AreWatched net steps lines unread c rows
  has_watched net steps lines unread is fit =
      let o = settled net is in
      let w = watch_of net o.0 steps lines in
      let start = some_judged w is o.1 0 net is in
      let told = some_list w is o.1 1 net steps is fit in
      let last = some_judged w is o.1 (length steps) (after_steps net steps) (steps_network stay net steps fit is) in (
        course_of lines unread told.0 last.0,
        start_rows lines start.0 ++ flat_map (rows_told lines) told.0,
        record { outcome = o.0; is_outcome = o.1; start = start.0; told = told.0; last = last.0; judged_start = start.1; each = told.1; judged_last = last.1; counted = refl; are = refl },
      )

  pub has_course : (net : Net) (steps : List (List LineRead)) (policy : Option (List PolicyLine)) → IsNetwork net → AllByRecursion IsInRange (all_lines steps) → (c : Course) × (rows : List Row) × Steps net steps policy c rows
  has_course net steps policy is fit =
      let each = has_watched net steps (lines_of policy) (length (front_rows_if policy)) is fit in
      (each.0, front_rows_if policy ++ each.1 ++ course_row policy each.0 ∷ [], record { each = each.1; are_each = each.2; are = refl })
