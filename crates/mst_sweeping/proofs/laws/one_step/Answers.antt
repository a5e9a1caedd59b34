use Rattle.std.proofs.Common.{◌≡◌, subst}
use Rattle.mst_sweeping.specs.StepText.{AreStepRows}
use Rattle.mst_sweeping.proofs.OneStep.{rows_same, told_same}
use Rattle.mst_sweeping.proofs.laws.one_step.Goals as goal

pub returns : goal.returns
returns g a b o p q r na nb oa pb qa rb leaving step rows other told said x y =
    let olds : q ≡ o = g.one_outcome.ensures a q o na qa oa in
    let news : r ≡ p = g.one_outcome.ensures b r p nb rb pb in
    let z : AreStepRows leaving a o b p step other said = subst (λ r. AreStepRows leaving a o b r step other said) news (subst (λ q. AreStepRows leaving a q b r step other said) olds y) in
    let one = g.islands_of_vid.ensures.one in
    let grouping = g.group_lists.ensures.one in
    (rows_same a b o p one grouping leaving step rows other told said x z, told_same a b o p one grouping leaving step rows other told said x z)
