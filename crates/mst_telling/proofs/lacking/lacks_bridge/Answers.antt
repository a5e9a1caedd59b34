use Rattle.std.proofs.Common.{◌&&◌, ◌++◌, List, ℕ, not, map, ap, ◌∙◌}
use Rattle.std.specs.List.{list_all}
use Rattle.mst_view.specs.declared.in_view.BridgeInView.{BridgeInView}
use Rattle.mst_graph.specs.Lists.{has_any}
use Rattle.mst_reasons.specs.Risks.{has_one}
use Rattle.mst_reasons.specs.Missing.{bridges_of, scope_bridges}
use Rattle.mst_reasons.proofs.NamedIn.{names_are}
use Rattle.mst_telling.proofs.lacking.lacks_bridge.Goals as goal

pub returns : goal.returns
returns c =
    let s = c.args.plan.now in
    let is = c.known.ensures in
    let promise = c.args.promise.now in
    let names = ap (map (λ (x : BridgeInView). x.name)) (c.bridges.ensures ∙ ap (λ v. v.bridges) c.view.ensures) ∙ names_are s.net s.numbers s.view is.of.view in
    ap not (c.has_bridges.ensures ∙ ap (λ (names : List (List ℕ)). has_any names && list_all (has_one names) (scope_bridges promise.scope ++ bridges_of promise.expectation)) names)
