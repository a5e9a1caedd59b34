use Rattle.std.proofs.Common.{◌++◌, List, ap, subst}
use Rattle.std.proofs.lemmas.Result.{on_ok_weaker}
use Rattle.mst_rows.specs.Rows.{Row}
use Rattle.mst_text.proofs.LagClasses.{classes_are}
use Rattle.mst_text.proofs.lags.put_lags.Goals as goal

pub returns : goal.returns
returns g c net numbers is first rows grew =
    on_ok_weaker c.put_classes.result
    (subst (g.R.Rows.grew first c.put_classes.new.out) (ap (λ (own : List Row). rows ++ own) (classes_are net numbers c.args.view.now is)))
    (c.put_classes.ensures first rows grew)
