use Rattle.std.proofs.Common.{sym, subst}
use Rattle.mst_view.specs.Viewed.{Viewed}
use Rattle.mst_lag.specs.Renewed.{IsViewButBridge}
use Rattle.mst_view.specs.contracts.in_view.View.{the_view}
use Rattle.mst_lag.proofs.RenewedBridge.{is_view}
use Rattle.mst_lag.proofs.renewing.renew_bridge.Goals as goal

pub returns-clause-ok : goal.returns-clause-ok
returns-clause-ok g c =
    let t = g.C.Contents.tables c.args.contents.now in
    let v : Viewed = the_view c.view.inside in
    let was = subst (IsViewButBridge c.args.bridge.now t.net t.numbers) (sym c.view.view_is) c.requires in
    is_view c.args.bridge.now t.net t.numbers v was c.known.ensures.network
    c.in_ok-bridges.bridges c.in_ok-bridges.ensures.rows c.in_ok-bridges.ensures.numbers
    c.is_on_now-is_on.result c.is_on_now-is_on.ensures
    c.power_ports.new.ports c.power_ports.ensures
