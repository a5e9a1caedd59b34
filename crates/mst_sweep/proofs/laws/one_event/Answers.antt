use Rattle.std.proofs.Common.{◌≡◌, subst}
use Rattle.mst_sweep.specs.SweepText.{AreEventRows}
use Rattle.mst_sweep.proofs.OneSweep.{one_event, cuts_alike, has_event}
use Rattle.mst_sweep.proofs.laws.one_event.Goals as goal

pub returns-clause-one : goal.returns-clause-one
returns-clause-one g a b o p q r na nb oa pb qa rb cause rows other c d x y =
    let olds : q ≡ o = g.one_outcome.ensures a q o na qa oa in
    let news : r ≡ p = g.one_outcome.ensures b r p nb rb pb in
    let z : AreEventRows a o b p cause other d = subst (λ r. AreEventRows a o b r cause other d) news (subst (λ q. AreEventRows a q b r cause other d) olds y) in
    let one = g.islands_of_vid.ensures.one in
    let grouping = g.group_lists.ensures.one in
    (one_event a b o p one grouping cause rows other c d x z, cuts_alike a b o p one grouping cause rows other c d x z)

pub returns-clause-some : goal.returns-clause-some
returns-clause-some g a b o p na nb cause =
    has_event a b o p (λ vid. g.islands_of_vid.ensures.some a o vid na) (λ vid. g.islands_of_vid.ensures.some b p vid nb) g.group_lists.ensures.some cause
