use Rattle.std.proofs.Common.{◌≡◌, subst}
use Rattle.mst_diff.specs.DiffText.{AreDiffRowsOf}
use Rattle.mst_between.proofs.laws.no_difference.Goals as goal

pub returns : goal.returns
returns g a c rows na x =
    let same : x.new ≡ x.old = g.one_outcome.ensures a x.new x.old na x.is_new x.is_old in
    g.no_difference.ensures a x.old c rows (subst (λ o. AreDiffRowsOf a x.old a o c rows) same x.told)
