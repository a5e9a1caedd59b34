use Rattle.std.proofs.Common.{◌≡◌, ◌++◌, [], Ok, sym, ap, subst, ◌∙◌}
use Rattle.std.specs.List.{flat_map}
use Rattle.mst_rows.specs.Lines.{row_line}
use Rattle.mst_report.specs.Answers.{Answers}
use Rattle.mst_report.specs.Planned.{planned_state}
use Rattle.mst_report.proofs.planner.Planner.answer.Goals.{else-asks_plan-via-then-asks_plan+else-is_err, else-asks_plan-via-else-asks_plan}
use Rattle.mst_report.proofs.planner.Planner.answer.Goals as goal

pub returns-in-Ok-clause-text : goal.returns-in-Ok-clause-text
returns-in-Ok-clause-text c =
    let empty = c.new-text.ensures.items in
    let told = c.in-Ok.ensures c.new-text.result [] (empty ∙ sym (ap (λ l. l ++ []) empty)) in
    let state : planned_state c.else-asks_plan.self ≡ planned_state c.args.self.now =
    elim c.else-asks_plan.branch [
      | else-asks_plan-via-then-asks_plan+else-is_err w ↦ ap planned_state w.self-is ∙ (λ i. record { net = (w.settle.ensures.same i).net; mark = w.settle.ensures.mark i })
      | else-asks_plan-via-else-asks_plan w ↦ ap planned_state w.self-is
    ] in
    (told.0, subst (λ s. Answers c.args.query.now s (Ok told.0)) state told.1, told.2 ∙ ap (λ l. l ++ flat_map row_line told.0) empty)

-- the planner stays as it is where the plan stands, and where the query isn't asked of it
pub returns-in-Ok-clause-idle : goal.returns-in-Ok-clause-idle
returns-in-Ok-clause-idle c settled =
    elim c.else-asks_plan.branch [
      | else-asks_plan-via-then-asks_plan+else-is_err w ↦ w.self-is ∙ w.settle.ensures.idle settled
      | else-asks_plan-via-else-asks_plan w ↦ w.self-is
    ]

pub returns-in-Ok-clause-unasked : goal.returns-in-Ok-clause-unasked
returns-in-Ok-clause-unasked c unasked =
    elim c.else-asks_plan.branch [
      | else-asks_plan-via-then-asks_plan+else-is_err w ↦ cc
      | else-asks_plan-via-else-asks_plan w ↦ w.self-is
    ]

pub returns-in-Err-clause-idle : goal.returns-in-Err-clause-idle
returns-in-Err-clause-idle c settled =
    elim c.else-asks_plan.branch [
      | else-asks_plan-via-then-asks_plan+else-is_err w ↦ w.self-is ∙ w.settle.ensures.idle settled
      | else-asks_plan-via-else-asks_plan w ↦ w.self-is
    ]

pub returns-in-Err-clause-unasked : goal.returns-in-Err-clause-unasked
returns-in-Err-clause-unasked c unasked =
    elim c.else-asks_plan.branch [
      | else-asks_plan-via-then-asks_plan+else-is_err w ↦ cc
      | else-asks_plan-via-else-asks_plan w ↦ w.self-is
    ]
