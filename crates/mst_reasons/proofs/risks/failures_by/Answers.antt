use Rattle.std.proofs.Common.{◌≡◌, ◌∙◌, ◌+◌, ◌++◌, ◌∷◌, [], Bool, cond, ap, append-nil, filter, map, sym, take}
use Rattle.std.proofs.lemmas.List.{take_all}
use Rattle.mst_summary.proofs.Lists.{passed_more}
use Rattle.mst_sweep.specs.declared.failure.Failure.{Failure}
use Rattle.mst_reasons.specs.Risks.{fails_by}
use Rattle.mst_reasons.proofs.risks.failures_by.Goals as goal
use Rattle.mst_reasons.proofs.risks.failures_by.Goals.{then-fails_by+in_ok-push, else-fails_by}

pub loop-failure-preserved : goal.loop-failure-preserved
loop-failure-preserved c =
    let l = c.loop-failure in
    let failures = c.args.failures.now in
    let failure : Failure = c.failure-item.result in
    let fails : Failure → Bool = fails_by (map (λ risk. risk.now) c.args.lines.now) in
    let so_far = filter fails (take l.failure-index failures) in
    let more : filter fails (take (l.failure-index + 1) failures) ≡ so_far ++ cond c.fails_by.result (failure ∷ []) [] =
    passed_more fails failures l.failure-index failure c.loop-failure-test.true c.failure-item.is ∙ ap (λ b. so_far ++ cond b (failure ∷ []) []) (sym c.fails_by.ensures) in
    elim c.if-fails_by.branch [
      | then-fails_by+in_ok-push w ↦
          ap (λ own. own.items) w.own-is ∙ w.in_ok-push.ensures.items ∙ ap (λ own. own ++ failure ∷ []) l.invariant
          ∙ sym (more ∙ ap (λ b. so_far ++ cond b (failure ∷ []) []) w.if-fails_by.true)
      | else-fails_by w ↦
          ap (λ own. own.items) w.own-is ∙ l.invariant ∙ sym (more ∙ ap (λ b. so_far ++ cond b (failure ∷ []) []) w.if-fails_by.false ∙ append-nil so_far)
    ]

pub returns : goal.returns
returns c =
    c.loop-failure.invariant
    ∙ ap (filter (fails_by (map (λ risk. risk.now) c.args.lines.now))) (take_all c.loop-failure.failure-index c.args.failures.now c.loop-failure-test.false)
