use Rattle.std.proofs.Common.{Some, None, refl, sym, ap, ◌∙◌}
use Rattle.std.specs.Option.{option_copied}
use Rattle.mst_view.specs.Viewed.{named_port}
use Rattle.mst_advise.proofs.ForwardingPort.{none_wanted, wanted_where, where_wanted}
use Rattle.mst_advise.proofs.PortsNamed.{port_is_named, port_is_there}
use Rattle.mst_advise.proofs.holding.is_forwarding.Goals as goal

pub forwards-requires : goal.forwards-requires
forwards-requires c = port_is_there c.args.plan.now c.args.name.now c.in-Some.port.now (sym c.port_named.ensures ∙ ap option_copied c.in-Some.is)

pub returns-in-None : goal.returns-in-None
returns-in-None c =
    let s = c.args.plan.now in
    let is = c.known.ensures in
    let name = c.args.name.now in
    (λ t. none_wanted s is c.args.tree name (port_is_named s is name None (sym c.port_named.ensures ∙ ap option_copied c.in-None.is)), λ w. refl)

pub returns-in-Some : goal.returns-in-Some
returns-in-Some c =
    let s = c.args.plan.now in
    let is = c.known.ensures in
    let name = c.args.name.now in
    let p = named_port c.in-Some.port.now in
    let found = port_is_named s is name (Some c.in-Some.port.now) (sym c.port_named.ensures ∙ ap option_copied c.in-Some.is) in
    (λ t. wanted_where s is c.args.tree name p found (sym c.forwards.ensures ∙ t), λ w. c.forwards.ensures ∙ where_wanted s is c.args.tree name p found w)
