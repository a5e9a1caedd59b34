use Rattle.std.proofs.Common.{◌≡◌, List, [], ◌++◌, Option, Some, None, sym, ap, ◌∙◌, append_assoc, append-nil}
use Rattle.std.specs.Option.{option_copied, option_map_or}
use Rattle.std.proofs.lemmas.Result.{on_ok_weaker}
use Rattle.mst_view.specs.View.{LogicalPort}
use Rattle.mst_view.specs.Viewed.{named_port}
use Rattle.mst_roles.specs.forest.Settled.{outcome_of}
use Rattle.mst_advise.specs.Costs.{costs_against, higher_costs, lower_costs, port_named}
use Rattle.mst_advise.specs.declared.setting.Setting.{Setting}
use Rattle.mst_advise.proofs.PortsNamed.{port_is_named, port_is_there}
use Rattle.mst_advise.proofs.costs.add_against.Goals as goal

pub add_higher-requires : goal.add_higher-requires
add_higher-requires c = port_is_there c.args.plan.now c.args.contest.now.winner c.in-Some.winner.now (sym c.port_named.ensures ∙ ap option_copied c.in-Some.is)

pub returns-in-None : goal.returns-in-None
returns-in-None c =
    let s = c.args.plan.now in
    let contest = c.args.contest.now in
    let none : port_named s.net contest.winner ≡ None = port_is_named s c.known.ensures contest.winner None (sym c.port_named.ensures ∙ ap option_copied c.in-None.is) in
    let old : List Setting = c.args.found.now.items in
    sym (append-nil old) ∙ ap (λ (w : Option LogicalPort). old ++ option_map_or (costs_against s.net (outcome_of s) c.args.tree (named_port c.args.port.now) contest.excess) w []) (sym none)

pub returns-in_ok-add_lower-in-Some : goal.returns-in_ok-add_lower-in-Some
returns-in_ok-add_lower-in-Some c =
    let s = c.args.plan.now in
    let o = outcome_of s in
    let p = named_port c.args.port.now in
    let w = named_port c.in-Some.winner.now in
    let contest = c.args.contest.now in
    let found : port_named s.net contest.winner ≡ Some w = port_is_named s c.known.ensures contest.winner (Some c.in-Some.winner.now) (sym c.port_named.ensures ∙ ap option_copied c.in-Some.is) in
    let old : List Setting = c.args.found.now.items in
    let low : List Setting = lower_costs s.net o c.args.tree p contest.excess in
    let high : List Setting = higher_costs s.net o c.args.tree w contest.excess in
    on_ok_weaker c.add_higher.result
    (λ more.
    more
    ∙ ap (λ (l : List Setting). l ++ high) c.in_ok-add_lower-in-Some.ensures
    ∙ append_assoc old low high
    ∙ ap (λ (q : Option LogicalPort). old ++ option_map_or (costs_against s.net o c.args.tree p contest.excess) q []) (sym found)) c.add_higher.ensures
