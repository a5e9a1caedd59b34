use Rattle.std.proofs.Common.{◌≡◌, ◌∙◌, ◌+◌, ◌++◌, ◌∷◌, [], Bor, List, Option, ap, append-nil, map, sym, take}
use Rattle.std.proofs.lemmas.List.{map-append, take_all, take_more}
use Rattle.std.specs.Option.{option_map}
use Rattle.std.specs.Prelude.{option_to_list}
use Rattle.mst_policy.specs.declared.policy.PolicyLine.{PolicyLine}
use Rattle.mst_policy.specs.declared.risk.RiskLine.{RiskLine}
use Rattle.mst_reasons.specs.SeenRisks.{seen_lines}
use Rattle.mst_reasons.proofs.RisksSeen.{seen_more}
use Rattle.mst_reasons.proofs.risks.whole_lines.Goals as goal
use Rattle.mst_reasons.proofs.risks.whole_lines.Goals.{in-Some+in_ok-push, in_default}

pub loop-line-preserved : goal.loop-line-preserved
loop-line-preserved c =
    let l = c.loop-line in
    let v = c.args.view.now in
    let lines = c.args.lines.now in
    let line : PolicyLine = c.line-item.result in
    let now : Bor RiskLine → RiskLine = λ risk. risk.now in
    let said : Option (Bor RiskLine) → List RiskLine = λ risk. option_to_list (option_map now risk) in
    let so_far = seen_lines v (take l.line-index lines) in
    let more : seen_lines v (take (l.line-index + 1) lines) ≡ so_far ++ said c.whole_risk.result =
    ap (seen_lines v) (take_more lines l.line-index line c.loop-line-test.true ∙ ap (λ x. take l.line-index lines ++ x ∷ []) (sym c.line-item.is))
    ∙ seen_more v (take l.line-index lines) line ∙ ap (λ risk. so_far ++ option_to_list risk) (sym c.whole_risk.ensures) in
    elim c.match-whole_risk.branch [
      | in-Some+in_ok-push w ↦
          ap (λ those. map now those.items) w.whole-is ∙ ap (map now) w.in_ok-push.ensures.items ∙ map-append now l.whole.items (w.in-Some.risk ∷ [])
          ∙ ap (λ (those : List RiskLine). those ++ now w.in-Some.risk ∷ []) l.invariant
          ∙ sym (more ∙ ap (λ risk. so_far ++ said risk) w.in-Some.is)
      | in_default w ↦ ap (λ those. map now those.items) w.whole-is ∙ l.invariant ∙ sym (more ∙ ap (λ risk. so_far ++ said risk) w.in_default.is ∙ append-nil so_far)
    ]

pub returns : goal.returns
returns c = c.loop-line.invariant ∙ ap (seen_lines c.args.view.now) (take_all c.loop-line.line-index c.args.lines.now c.loop-line-test.false)
