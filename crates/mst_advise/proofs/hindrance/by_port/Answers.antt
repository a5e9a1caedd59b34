use Rattle.std.proofs.Common.{Some, None, sym, ap, ◌∙◌}
use Rattle.std.specs.Option.{option_and_then, option_copied}
use Rattle.mst_view.specs.View.{LogicalPort}
use Rattle.mst_advise.specs.Hindrances.{of_port, off}
use Rattle.mst_advise.proofs.PortsNamed.{port_is_named}
use Rattle.mst_advise.proofs.hindrance.by_port.Goals as goal

pub returns-in-None : goal.returns-in-None
returns-in-None c =
    let s = c.args.plan.now in
    ap (option_and_then (λ (p : LogicalPort). off s.net p.name.bridge (of_port p))) (sym (port_is_named s c.known.ensures c.args.name.now None (sym c.port_named.ensures ∙ ap option_copied c.in-None.is)))

pub returns-in-Some : goal.returns-in-Some
returns-in-Some c =
    let s = c.args.plan.now in
    let p = c.in-Some.port.now in
    c.off.ensures ∙ ap (off s.net p.name.bridge) c.of_port.ensures
    ∙ ap (option_and_then (λ (p : LogicalPort). off s.net p.name.bridge (of_port p))) (sym (port_is_named s c.known.ensures c.args.name.now (Some p) (sym c.port_named.ensures ∙ ap option_copied c.in-Some.is)))
