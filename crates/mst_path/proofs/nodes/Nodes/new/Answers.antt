use Rattle.std.proofs.Common.{◌≡◌, ◌+◌, ◌<◌, ◌^◌, ℕ, List, map, length, sym, ap, ◌∙◌, subst, arith}
use Rattle.std.specs.List.{All}
use Rattle.mst_graph.specs.Numbers.{AreNumbers}
use Rattle.mst_view.specs.Aggregation.{same_name}
use Rattle.mst_path.specs.Places.{lan_names}
use Rattle.mst_path.proofs.Numbered.{nodes_of, numbers_below}
use Rattle.mst_path.proofs.nodes.Nodes.new.Goals as goal

pub returns : goal.returns
returns c =
    let bridges = c.in_ok-bridges.field-0 in
    let lans = c.in_ok-lan_numbers.field-0 in
    let by_is : c.len-by.result ≡ length bridges.firsts.items = c.len-by.ensures ∙ bridges.firsts.ok.0 in
    let lans_are : c.len.result ≡ length lans.firsts.items = c.len.ensures ∙ lans.firsts.ok.0 in
    nodes_of c.args.ports.now bridges.numbers.items bridges.firsts.items lans.numbers.items lans.firsts.items c.in_ok-lans.lans.items (c.len-by.result + c.len.result)
    (subst (λ (names : List (List ℕ)). AreNumbers same_name names bridges.numbers.items bridges.firsts.items) c.in_ok-bridge_names.ensures c.in_ok-bridges.ensures)
    (subst (λ (names : List (List ℕ)). AreNumbers same_name names lans.numbers.items lans.firsts.items) c.in_ok-lan_names.ensures c.in_ok-lan_numbers.ensures)
    (c.in_ok-lans.ensures ∙ ap (map (λ n. c.len-by.result + n)) c.as_slice.ensures.value ∙ ap (λ k. map (λ n. k + n) lans.numbers.items) by_is)
    (omega (arith, by_is, lans_are))

pub shifted-requires-clause-numbers : goal.shifted-requires-clause-numbers
shifted-requires-clause-numbers c =
    let lans = c.in_ok-lan_numbers.field-0 in
    let small : length lans.firsts.items < 2 ^ 63 = omega (arith, lans.firsts.ok.0, lans.firsts.small) in
    subst (All (λ n. n < 2 ^ 63)) (sym c.as_slice.ensures.value)
    (numbers_below (lan_names c.args.ports.now) lans.numbers.items lans.firsts.items (subst (λ (names : List (List ℕ)). AreNumbers same_name names lans.numbers.items lans.firsts.items) c.in_ok-lan_names.ensures c.in_ok-lan_numbers.ensures) small)
