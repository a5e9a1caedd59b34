use Rattle.std.proofs.Common.{◌∙◌, ◌++◌, Bor, List, ap, map, sym}
use Rattle.std.specs.List.{flat_map}
use Rattle.std.proofs.lemmas.List.{take_all}
use Rattle.mst_graph.specs.Lists.{each_once}
use Rattle.mst_policy.specs.declared.risk.RiskLine.{RiskLine}
use Rattle.mst_roles.proofs.forest_lemmas.Lists.{mapped_twice}
use Rattle.mst_view.specs.Aggregation.{same_name}
use Rattle.mst_reasons.specs.Risks.{lines_of}
use Rattle.mst_reasons.specs.SeenRisks.{seen_risk}
use Rattle.mst_reasons.proofs.RisksSeen.{flat_more, risks_seen}
use Rattle.mst_reasons.proofs.risks.risks.Goals as goal

pub loop-name-preserved : goal.loop-name-preserved
loop-name-preserved c =
    let l = c.loop-name in
    let names = c.as_slice-name-items.result.now in
    let name = c.name-item.result in
    let those : List RiskLine = map (λ (risk : Bor RiskLine). risk.now) c.in_ok-whole.whole.items in
    let fs = c.args.failures.now in
    let own = c.in_ok-kept.ensures name ∙ ap (λ (some : List (Bor RiskLine)). lines_of name (map (λ risk. risk.now) some)) c.as_slice-2.ensures.value in
    c.in_ok-add_named.ensures
    ∙ (λ i. l.invariant i ++ seen_risk fs (own i) name)
    ∙ sym (flat_more (λ name. seen_risk fs (lines_of name those) name) names l.name-index name c.loop-name-test.true c.name-item.is)

pub returns : goal.returns
returns c = λ net numbers view fs_are.
    let now : Bor RiskLine → RiskLine = λ risk. risk.now in
    let fs = c.args.failures.now in
    let whole = c.in_ok-whole.whole.items in
    let names = take_all c.loop-name.name-index c.as_slice-name-items.result.now c.loop-name-test.false ∙ c.as_slice-name-items.ensures.keys ∙ c.in_ok-names.ensures
    ∙ ap (λ (some : List (Bor RiskLine)). each_once same_name (map (λ risk. risk.now.name) some)) c.as_slice.ensures.value
    ∙ ap (each_once same_name) (sym (mapped_twice (λ (line : RiskLine). line.name) now whole)) in
    c.loop-name.invariant ∙ ap (flat_map (λ name. seen_risk fs (lines_of name (map now whole)) name)) names
    ∙ (λ i. flat_map (λ name. seen_risk (fs_are i) (lines_of name (c.in_ok-whole.ensures i)) name) (each_once same_name (map (λ (line : RiskLine). line.name) (c.in_ok-whole.ensures i))))
    ∙ risks_seen net numbers c.args.view.now view c.args.lines.now
