use Rattle.std.proofs.Common.{◌≡◌, ◌<◌, Bool, cond, length, get_or, sym, ap, ◌∙◌, arith}
use Rattle.mst_lag.specs.Renewed.{port_powered, powered}
use Rattle.mst_view.specs.declared.in_view.PortInView.{PortInView}
use Rattle.mst_lag.proofs.InPlace.{stays, written}
use Rattle.mst_lag.proofs.renewing.power_ports.Goals as goal
use Rattle.mst_lag.proofs.renewing.power_ports.Goals.{then-eq, else-eq}

pub loop-place-preserved : goal.loop-place-preserved
loop-place-preserved c =
    let l = c.loop-place in
    let f : PortInView → PortInView = port_powered c.args.bridge.now c.args.is_on in
    let x : PortInView = c.index-as_slice-place.result in
    let now : PortInView = powered c.args.is_on c.index-as_slice-place.result in
    let below : l.place < length c.args.ports.now = omega (arith, c.loop-place-test.true, c.len-place-end.ensures) in
    let here : x ≡ get_or l.ports l.place x = c.index-as_slice-place.is ∙ ap (λ xs. get_or xs l.place x) c.as_slice.ensures in
    elim c.if-eq.branch [
      | then-eq w ↦
          let changed : f x ≡ now = ap (λ (b : Bool). cond b now x) (sym c.eq.ensures ∙ w.if-eq.true) in
          w.ports-is ∙ w.write.ensures ∙ written f c.args.ports.now l.ports l.place l.invariant x w.powered_port.result below here (w.powered_port.ensures ∙ sym changed)
      | else-eq w ↦
          let same : f x ≡ x = ap (λ (b : Bool). cond b now x) (sym c.eq.ensures ∙ w.if-eq.false) in
          w.ports-is ∙ stays f c.args.ports.now l.ports l.place l.invariant x below here same
    ]
