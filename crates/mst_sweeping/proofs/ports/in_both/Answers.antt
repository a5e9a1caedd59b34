use Rattle.std.proofs.Common.{◌≡◌, ◌∙◌, Some, None, ap, sym}
use Rattle.std.specs.List.{find}
use Rattle.std.specs.Option.{option_copied, option_map}
use Rattle.mst_net.specs.tables.Tables.{port_eq}
use Rattle.mst_view.specs.declared.in_view.PortInView.{PortInView}
use Rattle.mst_sweeping.specs.declared.ports.BothPorts.{BothPorts}
use Rattle.mst_sweeping.proofs.ports.in_both.Goals as goal

abbrev with_other : PortInView → PortInView → BothPorts
with_other x y = record { old = x; new = y }

pub returns-in_err-other : goal.returns-in_err-other
returns-in_err-other c =
    let found : find (λ (y : PortInView). port_eq y.name c.args.port.now.name) c.args.others.now ≡ None = sym (c.requires c.args.port.now.name) ∙ sym c.get.ensures.value ∙ ap option_copied (c.in_err-other.was {u = tt}) in
    c.from_residual.ensures ∙ sym (ap (option_map (with_other c.args.port.now)) found)

pub returns : goal.returns
returns c =
    let found : find (λ (y : PortInView). port_eq y.name c.args.port.now.name) c.args.others.now ≡ Some c.in_ok-other.other.now = sym (c.requires c.args.port.now.name) ∙ sym c.get.ensures.value ∙ ap option_copied (c.in_ok-other.was {u = tt}) in
    sym (ap (option_map (with_other c.args.port.now)) found)
