use Rattle.std.proofs.Common.{◌≡◌, subst}
use Rattle.mst_sweep.specs.SweepText.{AreEventRows}
use Rattle.mst_sweep.specs.declared.event.Cause.TheVariants.{One}
use Rattle.mst_sweeping.proofs.NoneAnew.{none_restarts}
use Rattle.mst_sweeping.proofs.OneStep.{as_failure}
use Rattle.mst_sweeping.proofs.laws.as_in_sweep.Goals as goal

pub returns : goal.returns
returns g a b o p q r failure na nb oa pb qa rb e step rows swept told cuts x y =
    let olds : q ≡ o = g.one_outcome.ensures a q o na qa oa in
    let news : r ≡ p = g.one_outcome.ensures b r p nb rb pb in
    let z : AreEventRows a o b p (One failure) swept cuts = subst (λ r. AreEventRows a o b r (One failure) swept cuts) news (subst (λ q. AreEventRows a q b r (One failure) swept cuts) olds y) in
    as_failure a b o p g.islands_of_vid.ensures.one g.group_lists.ensures.one step failure rows swept told cuts (none_restarts failure a b e) x z
