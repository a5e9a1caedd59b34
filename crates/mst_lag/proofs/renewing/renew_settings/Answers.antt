use Rattle.std.proofs.Common.{sym, subst}
use Rattle.mst_view.specs.Viewed.{Viewed}
use Rattle.mst_lag.specs.Renewed.{IsViewButSettings}
use Rattle.mst_view.specs.contracts.in_view.View.{the_view}
use Rattle.mst_lag.proofs.SetAlone.{is_settings}
use Rattle.mst_lag.proofs.renewing.renew_settings.Goals as goal

pub returns-clause-ok : goal.returns-clause-ok
returns-clause-ok g c =
    let t = g.C.Contents.tables c.args.contents.now in
    let v : Viewed = the_view c.view.inside in
    is_settings t.net t.numbers v (subst (IsViewButSettings t.net t.numbers) (sym c.view.view_is) c.requires) c.in_ok-settings.settings.set c.in_ok-settings.ensures
