use Rattle.std.proofs.Common.{◌≡◌, ℕ, List, map, sym, subst, ◌∙◌}
use Rattle.mst_view.specs.Viewed.{Viewed}
use Rattle.mst_lag.specs.Renewed.{IsViewButSet}
use Rattle.mst_view.specs.contracts.in_view.View.{the_view}
use Rattle.mst_view.specs.declared.trees.TreesInView.{TreesInView}
use Rattle.mst_lag.proofs.SetAlone.{is_set}
use Rattle.mst_lag.proofs.renewing.renew_tables.Goals as goal

pub returns-clause-ok : goal.returns-clause-ok
returns-clause-ok g c =
    let t = g.C.Contents.tables c.args.contents.now in
    let v : Viewed = the_view c.view.inside in
    is_set t.net t.numbers v (subst (IsViewButSet t.net t.numbers) (sym c.view.view_is) c.requires)
    (map (λ (x : TreesInView). (x.bridge, x.trees)) c.in_ok-trees.trees) c.in_ok-trees.ensures c.in_ok-settings.settings.set c.in_ok-settings.ensures
