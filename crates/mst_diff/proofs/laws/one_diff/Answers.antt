use Rattle.std.proofs.Common.{◌≡◌, subst}
use Rattle.mst_diff.specs.DiffText.{AreDiffRowsOf}
use Rattle.mst_diff.proofs.OneDiff.{one_counts, one_diff, has_diff}
use Rattle.mst_diff.proofs.laws.one_diff.Goals as goal

pub returns-clause-one : goal.returns-clause-one
returns-clause-one g a b o p q r na nb oa pb qa rb c d rows other x y =
    let olds : q ≡ o = g.one_outcome.ensures a q o na qa oa in
    let news : r ≡ p = g.one_outcome.ensures b r p nb rb pb in
    let z : AreDiffRowsOf a o b p d other = subst (λ r. AreDiffRowsOf a o b r d other) news (subst (λ q. AreDiffRowsOf a q b r d other) olds y) in
    let one = g.islands_of_vid.ensures.one in
    let grouping = g.group_lists.ensures.one in
    (one_diff a b o p one grouping c d rows other x z, one_counts a b o p one grouping c d rows other x z)

pub returns-clause-some : goal.returns-clause-some
returns-clause-some g a b o p na nb =
    has_diff a b o p (λ vid. g.islands_of_vid.ensures.some a o vid na) (λ vid. g.islands_of_vid.ensures.some b p vid nb) g.group_lists.ensures.some
