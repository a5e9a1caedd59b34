use Rattle.std.proofs.Common.{◌≡◌, ◌+◌, ◌≤◌, ℕ, Bool, true, false, if◌then◌else◌, is_some, List, [], ◌∷◌, ◌++◌, Option, None, Some, Result, Ok, Err, length, length-append, arith, ap, subst}
use Rattle.std.proofs.lemmas.List.{length-map}
use Rattle.std.specs.List.{flat_map, list_all}
use Rattle.std.specs.Option.{option_map}
use Rattle.mst_change.specs.Reading.{LineRead}
use Rattle.mst_lang.specs.declared.line.Fault.{Fault}
use Rattle.mst_tables.specs.Contents.{Contents}
use Rattle.mst_tables.specs.Tables.{Net}
use Rattle.mst_policy.specs.Lines.{risk_in}
use Rattle.mst_policy.specs.declared.policy.PolicyLine.{PolicyLine}
use Rattle.mst_policy.specs.declared.risk.Said.{Said}
use Rattle.mst_rows.specs.Rows.{Row}
use Rattle.mst_verdict.specs.Stepping.{Steps, front_rows_if, lines_of}
use Rattle.mst_verdict.specs.declared.stepping.Course.{Course}
use Rattle.mst_verdict.specs.telling.Rows.{behind, nothing_row}
use Rattle.mst_verdict.specs.telling.Steps.{nothing_rows}
use Rattle.mst_verdict.specs.telling.Told.{unread_by, unread_rows}
use Rattle.mst_altering.proofs.stepping.put_steps.Goals as goal

pub returns-clause-told : goal.returns-clause-told
returns-clause-told g c first before grew =
    let said = c.in_ok-course.ensures.told in
    let course = c.in_ok-course.course in
    let policy : Option (List PolicyLine) = option_map (λ p. p.now) c.args.policy in (
      said.0,
      subst (λ (steps : List (List LineRead)). Steps c.args.planner.now.contents.net steps policy course said.0) c.steps.ensures
          (subst (λ (p : Contents). Steps p.net c.steps.result.now policy course said.0) c.take-network.ensures.network said.1),
      said.2 first before grew,
    )

-- no more lines can't be read than there are, and one row more tells of a policy in which nothing is judged
one_unread : (n : ℕ) (read : Result Said Fault) → length (unread_by n read) ≤ 1
one_unread n (Ok said) = omega arith
one_unread n (Err fault) = omega arith

all_unread : (lines : List PolicyLine) → length (flat_map unread_rows lines) ≤ length lines
all_unread [] = omega arith
all_unread (line ∷ lines) = omega (arith, length-append (unread_rows line) (flat_map unread_rows lines), one_unread line.number line.read, all_unread lines)

one_if : (b : Bool) (row : Row) → length (if b then row ∷ [] else []) ≤ 1
one_if true row = omega arith
one_if false row = omega arith

one_nothing : (lines : List PolicyLine) → length (nothing_rows lines) ≤ 1
one_nothing lines = one_if (list_all (λ line. is_some (risk_in line.read)) lines) nothing_row

few_front : (policy : Option (List PolicyLine)) → length (front_rows_if policy) ≤ length (lines_of policy) + 1
few_front None = omega arith
few_front (Some lines) =
    let rows = nothing_rows lines ++ flat_map unread_rows lines in
    omega (arith, length-map rows (behind 0), length-append (nothing_rows lines) (flat_map unread_rows lines), one_nothing lines, all_unread lines)

few_unread : (net : Net) (steps : List (List LineRead)) (policy : Option (List PolicyLine)) (course : Course) (rows : List Row) → Steps net steps policy course rows → course.unread ≤ length (lines_of policy) + 1
few_unread net steps policy course rows said =
    let counted : course.unread ≡ length (front_rows_if policy) = ap (λ (all : Course). all.unread) said.are_each.counted in
    omega (arith, counted, few_front policy)

pub returns-clause-few_policy : goal.returns-clause-few_policy
returns-clause-few_policy g c = few_unread _ _ _ c.in_ok-course.course _ c.in_ok-course.ensures.told.1
