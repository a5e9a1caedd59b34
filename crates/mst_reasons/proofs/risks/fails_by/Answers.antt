use Rattle.std.proofs.Common.{◌≡◌, ◌∙◌, ◌||◌, Bool, Bor, false, ap, get_or, sym}
use Rattle.std.specs.List.{list_any}
use Rattle.std.proofs.lemmas.List.{take_all}
use Rattle.std.proofs.lemmas.List.Folds.{list_any_at, list_any_more}
use Rattle.mst_policy.specs.declared.risk.RiskLine.{RiskLine}
use Rattle.mst_summary.proofs.Lists.{any_mapped}
use Rattle.mst_reasons.specs.Risks.{items_have}
use Rattle.mst_reasons.proofs.risks.fails_by.Goals as goal

pub loop-n-preserved : goal.loop-n-preserved
loop-n-preserved c =
    let test : Bor RiskLine → Bool = λ line. items_have line.now.items c.args.failure.now in
    let line : Bor RiskLine = get_or c.args.lines.now c.loop-n.n c.index-lines-n.result in
    let fails : test line ≡ false = sym c.items_have.ensures ∙ c.if-items_have.false in
    list_any_more test c.args.lines.now c.loop-n.n c.index-lines-n.result c.loop-n-test.true ∙ (λ i. c.loop-n.invariant i || fails i)

pub returns-then-items_have : goal.returns-then-items_have
returns-then-items_have c =
    let test : Bor RiskLine → Bool = λ line. items_have line.now.items c.args.failure.now in
    sym
    (any_mapped (λ (line : RiskLine). items_have line.items c.args.failure.now) (λ (line : Bor RiskLine). line.now) c.args.lines.now
    ∙ list_any_at test c.args.lines.now c.loop-n.n c.index-lines-n.result c.loop-n-test.true (sym c.items_have.ensures ∙ c.if-items_have.true))

pub returns : goal.returns
returns c =
    let test : Bor RiskLine → Bool = λ line. items_have line.now.items c.args.failure.now in
    sym
    (any_mapped (λ (line : RiskLine). items_have line.items c.args.failure.now) (λ (line : Bor RiskLine). line.now) c.args.lines.now
    ∙ ap (list_any test) (sym (take_all c.loop-n.n c.args.lines.now c.loop-n-test.false)) ∙ c.loop-n.invariant)
