use Rattle.std.proofs.Common.{◌≡◌, ◌<◌, List, length, sym, subst, ◌∙◌}
use Rattle.mst_view.proofs.Names.{same_names, same_ports}
use Rattle.mst_view.specs.declared.in_view.PortInView.{PortInView}
use Rattle.mst_vlan.specs.Carried.{names_of}
use Rattle.mst_vlan.proofs.Lists.{more_names, not_false}
use Rattle.mst_vlan.proofs.comparing.have_same_ports.Goals as goal

pub loop-place-preserved : goal.loop-place-preserved
loop-place-preserved c =
    let ports : List PortInView = c.ports-ports.result.now in
    let others : List PortInView = c.ports-others.result.now in
    let port : PortInView = c.index-ports-place.result in
    let other : PortInView = c.index-others-place.result in
    let as_long : length ports ≡ length others = c.if-ports-others.false in
    let below : c.loop-place.place < length ports = c.loop-place-test.true in
    let name : port.name ≡ other.name = same_ports port.name other.name (not_false _ (sym c.ne.ensures ∙ c.if-ne.false)) in
    let lan : port.lan ≡ other.lan = same_names port.lan other.lan (not_false _ (sym c.ne-else-ne.ensures ∙ c.if-ne-2.false)) in
    more_names names_of ports others c.loop-place.place port other below (subst (λ n. c.loop-place.place < n) as_long below) c.index-ports-place.is c.index-others-place.is c.loop-place.invariant
    (λ i. (name i, lan i))
