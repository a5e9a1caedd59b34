use Rattle.std.proofs.Common.{sym, subst}
use Rattle.mst_view.specs.Viewed.{Viewed}
use Rattle.mst_lag.specs.Renewed.{IsViewButPort}
use Rattle.mst_view.specs.contracts.in_view.View.{the_view}
use Rattle.mst_lag.proofs.RenewedPort.{is_view}
use Rattle.mst_lag.proofs.renewing.renew_port.Goals as goal

pub returns-clause-ok : goal.returns-clause-ok
returns-clause-ok g c =
    let t = g.C.Contents.tables c.args.contents.now in
    let v : Viewed = the_view c.view.inside in
    is_view c.args.port.now t.net t.numbers v (subst (IsViewButPort c.args.port.now t.net t.numbers) (sym c.view.view_is) c.requires)
    c.settings_now-settings.result c.settings_now-settings.ensures
    c.set_port.new.ports c.set_port.ensures
