use Rattle.std.proofs.Common.{◌≡◌, ◌∙◌, ◌+◌, ◌∷◌, [], ◌++◌, Bor, List, ℕ, ap, get_or, map, sym, take}
use Rattle.std.proofs.lemmas.List.{map_more, take_all}
use Rattle.std.proofs.lemmas.List.Sums.{fold-append}
use Rattle.mst_graph.specs.Lists.{each_once, with_new}
use Rattle.mst_policy.specs.declared.risk.RiskLine.{RiskLine}
use Rattle.mst_view.specs.Aggregation.{same_name}
use Rattle.mst_reasons.proofs.RisksSeen.{with_key}
use Rattle.mst_reasons.proofs.risks.names.Goals as goal

pub loop-n-preserved : goal.loop-n-preserved
loop-n-preserved c =
    let n = c.loop-n.n in
    let lines = c.args.lines.now in
    let line : Bor RiskLine = get_or lines n c.index-lines-n.result in
    let name : Bor RiskLine → List ℕ = λ risk. risk.now.name in
    let more : map name (take (n + 1) lines) ≡ map name (take n lines) ++ name line ∷ [] =
    map_more name lines n c.index-lines-n.result c.loop-n-test.true in
    c.in_ok-insert.ensures.keys ∙ with_key c.loop-n.names.keys (name line) ∙ ap (λ (keys : List (List ℕ)). with_new same_name keys (name line)) c.loop-n.invariant
    ∙ sym (ap (each_once same_name) more ∙ fold-append (with_new same_name) [] (map name (take n lines)) (name line ∷ []))

pub returns : goal.returns
returns c = c.loop-n.invariant ∙ ap (λ (some : List (Bor RiskLine)). each_once same_name (map (λ risk. risk.now.name) some)) (take_all c.loop-n.n c.args.lines.now c.loop-n-test.false)
