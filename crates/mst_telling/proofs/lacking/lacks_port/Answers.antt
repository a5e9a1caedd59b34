use Rattle.std.proofs.Common.{not, map, sym, ap, ◌∙◌}
use Rattle.std.specs.List.{list_all}
use Rattle.mst_view.specs.declared.in_view.PortInView.{PortInView}
use Rattle.mst_view.specs.View.{port_names}
use Rattle.mst_reasons.specs.Missing.{has_port, ports_of}
use Rattle.mst_telling.proofs.LackedSeen.{names_of_ports}
use Rattle.mst_telling.proofs.lacking.lacks_port.Goals as goal

pub returns-in-Role : goal.returns-in-Role
returns-in-Role c =
    let s = c.args.plan.now in
    let is = c.known.ensures in
    let names = ap (map (λ (p : PortInView). p.name)) (c.ports.ensures ∙ ap (λ v. v.ports) c.view.ensures) ∙ names_of_ports s.net s.numbers s.view s.forest.regions is.of in
    ap not (c.have_ports.ensures ∙ ap (λ ns. list_all (has_port ns) c.as_slice.result.now) names ∙ ap (list_all (has_port (port_names s.net))) (c.as_slice.ensures ∙ ap ports_of (sym c.in-Role.is)))
