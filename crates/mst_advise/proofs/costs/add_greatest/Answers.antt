use Rattle.std.proofs.Common.{◌≡◌, List, [], ◌++◌, Option, Some, None, sym, ap, subst, ◌∙◌, append-nil}
use Rattle.std.specs.Prelude.{OnOk}
use Rattle.std.specs.Option.{option_copied, option_map_or}
use Rattle.mst_view.specs.View.{LogicalPort}
use Rattle.mst_roles.specs.forest.Settled.{outcome_of}
use Rattle.mst_advise.specs.Costs.{port_named, with_cost}
use Rattle.mst_advise.specs.declared.setting.Setting.{Setting}
use Rattle.mst_advise.proofs.PortsNamed.{port_is_named, port_is_there}
use Rattle.mst_advise.proofs.costs.add_greatest.Goals as goal

pub add_cost-requires : goal.add_cost-requires
add_cost-requires c = port_is_there c.args.plan.now c.args.contest.now.winner c.in-Some.winner.now (sym c.port_named.ensures ∙ ap option_copied c.in-Some.is)

pub returns-in-None : goal.returns-in-None
returns-in-None c =
    let s = c.args.plan.now in
    let none : port_named s.net c.args.contest.now.winner ≡ None = port_is_named s c.known.ensures c.args.contest.now.winner None (sym c.port_named.ensures ∙ ap option_copied c.in-None.is) in
    let old : List Setting = c.args.found.now.items in
    sym (append-nil old) ∙ ap (λ (w : Option LogicalPort). old ++ option_map_or (λ (w : LogicalPort). with_cost s.net (outcome_of s) c.args.tree w 200_000_000) w []) (sym none)

pub returns-in-Some : goal.returns-in-Some
returns-in-Some c =
    let s = c.args.plan.now in
    subst (λ (w : Option LogicalPort). OnOk c.add_cost.result (c.add_cost.new.found.items ≡ c.args.found.now.items ++ option_map_or (λ (w : LogicalPort). with_cost s.net (outcome_of s) c.args.tree w 200_000_000) w []))
    (sym (port_is_named s c.known.ensures c.args.contest.now.winner (Some c.in-Some.winner.now) (sym c.port_named.ensures ∙ ap option_copied c.in-Some.is))) c.add_cost.ensures
