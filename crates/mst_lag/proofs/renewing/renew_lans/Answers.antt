use Rattle.std.proofs.Common.{◌≡◌, ◌<◌, Bool, cond, length, get_or, sym, ap, ◌∙◌, arith}
use Rattle.mst_lag.specs.Renewed.{lan_again}
use Rattle.mst_view.specs.declared.in_view.LanInView.{LanInView}
use Rattle.mst_lag.proofs.InPlace.{stays, written}
use Rattle.mst_lag.proofs.renewing.renew_lans.Goals as goal
use Rattle.mst_lag.proofs.renewing.renew_lans.Goals.{then-eq, else-eq}

pub loop-place-preserved : goal.loop-place-preserved
loop-place-preserved c =
    let l = c.loop-place in
    let f : LanInView → LanInView = lan_again c.args.lan.now c.args.total in
    let x : LanInView = c.index-as_slice-place.result in
    let now : LanInView = record c.index-as_slice-place.result { speed = c.args.total.speed; is_up = c.args.total.is_up } in
    let below : l.place < length c.args.lans.now = omega (arith, c.loop-place-test.true, c.len-place-end.ensures) in
    let here : x ≡ get_or l.lans l.place x = c.index-as_slice-place.is ∙ ap (λ xs. get_or xs l.place x) c.as_slice.ensures in
    elim c.if-eq.branch [
      | then-eq w ↦
          let changed : f x ≡ now = ap (λ (b : Bool). cond b now x) (sym c.eq.ensures ∙ w.if-eq.true) in
          w.lans-is ∙ w.write.ensures ∙ written f c.args.lans.now l.lans l.place l.invariant x now below here (sym changed)
      | else-eq w ↦
          let same : f x ≡ x = ap (λ (b : Bool). cond b now x) (sym c.eq.ensures ∙ w.if-eq.false) in
          w.lans-is ∙ stays f c.args.lans.now l.lans l.place l.invariant x below here same
    ]
