use Rattle.std.proofs.Common.{◌≡◌, subst}
use Rattle.mst_diff.specs.DiffText.{AreDiffRowsOf}
use Rattle.mst_between.proofs.laws.turned.Goals as goal

pub returns : goal.returns
returns g a b c d rows other na nb x y =
    let first : y.old ≡ x.new = g.one_outcome.ensures b y.old x.new nb y.is_old x.is_new in
    let second : y.new ≡ x.old = g.one_outcome.ensures a y.new x.old na y.is_new x.is_old in
    let told : AreDiffRowsOf b x.new a x.old d other = subst (λ p. AreDiffRowsOf b x.new a p d other) second (subst (λ o. AreDiffRowsOf b o a y.new d other) first y.told) in
    g.turned.ensures.counts a b x.old x.new c d rows other x.told told
