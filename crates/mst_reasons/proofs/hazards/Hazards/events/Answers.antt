use Rattle.std.proofs.Common.{◌≡◌, ◌∙◌, ◌+◌, ◌++◌, ◌∷◌, [], List, ap, append-nil, append_assoc, map, sym, take}
use Rattle.std.proofs.lemmas.List.{take_all, take_more}
use Rattle.mst_sweep.specs.Failures.{Event, alone}
use Rattle.mst_reasons.proofs.hazards.Hazards.events.Goals as goal

pub loop-risk-init : goal.loop-risk-init
loop-risk-init c =
    c.in_ok-events.ensures ∙ ap (map alone) c.as_slice.ensures.value ∙ ap (λ hazards. hazards.single) c.self.view_is ∙ sym (append-nil c.args.self.now.single)

pub loop-risk-preserved : goal.loop-risk-preserved
loop-risk-preserved c =
    let l = c.loop-risk in
    let risks = c.as_slice-risk-items.result.now in
    let single : List Event = c.args.self.now.single in
    let more : take (l.risk-index + 1) risks ≡ take l.risk-index risks ++ c.event.result ∷ [] =
    take_more risks l.risk-index c.risk-item.result c.loop-risk-test.true ∙ ap (λ risk. take l.risk-index risks ++ risk ∷ []) (sym c.risk-item.is ∙ sym c.event.ensures) in
    c.in_ok-push.ensures.items ∙ ap (λ (events : List Event). events ++ c.event.result ∷ []) l.invariant ∙ append_assoc single (take l.risk-index risks) (c.event.result ∷ [])
    ∙ sym (ap (λ (events : List Event). single ++ events) more)

pub returns : goal.returns
returns c =
    let l = c.loop-risk in
    let risks = c.as_slice-risk-items.result.now in
    l.invariant
    ∙ ap (λ (events : List Event). c.args.self.now.single ++ events)
    (take_all l.risk-index risks c.loop-risk-test.false ∙ c.as_slice-risk-items.ensures.value ∙ ap (λ hazards. hazards.risks) c.self.view_is)
