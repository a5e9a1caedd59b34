use Rattle.std.proofs.Common.{sym, subst}
use Rattle.mst_view.specs.Viewed.{Viewed}
use Rattle.mst_lag.specs.Renewed.{IsViewButPorts}
use Rattle.mst_view.specs.contracts.in_view.View.{the_view}
use Rattle.mst_lag.proofs.PortsAlone.{is_linked}
use Rattle.mst_lag.proofs.renewing.renew_links.Goals as goal

pub returns-clause-ok : goal.returns-clause-ok
returns-clause-ok g c =
    let t = g.C.Contents.tables c.args.contents.now in
    let v : Viewed = the_view c.view.inside in
    is_linked t.net t.numbers v (subst (IsViewButPorts t.net t.numbers) (sym c.view.view_is) c.requires) c.in_ok-links.links c.in_ok-links.ensures
