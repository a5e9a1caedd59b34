use Rattle.std.proofs.Common.{◌≡◌, ◌∙◌, ◌+◌, ◌++◌, ◌∷◌, [], List, ap, sym, take}
use Rattle.std.proofs.lemmas.List.{take_all, take_more}
use Rattle.mst_sweep.specs.Failures.{Event}
use Rattle.mst_reasons.proofs.hazards.Hazards.risks.Goals as goal

pub loop-risk-preserved : goal.loop-risk-preserved
loop-risk-preserved c =
    let l = c.loop-risk in
    let risks = c.as_slice-risk-items.result.now in
    let more : take (l.risk-index + 1) risks ≡ take l.risk-index risks ++ c.event.result ∷ [] =
    take_more risks l.risk-index c.risk-item.result c.loop-risk-test.true ∙ ap (λ risk. take l.risk-index risks ++ risk ∷ []) (sym c.risk-item.is ∙ sym c.event.ensures) in
    c.in_ok-push.ensures.items ∙ ap (λ (events : List Event). events ++ c.event.result ∷ []) l.invariant ∙ sym more

pub returns : goal.returns
returns c =
    let l = c.loop-risk in
    l.invariant ∙ take_all l.risk-index c.as_slice-risk-items.result.now c.loop-risk-test.false ∙ c.as_slice-risk-items.ensures.value ∙ ap (λ hazards. hazards.risks) c.self.view_is
