use Rattle.std.proofs.Common.{List, refl, subst}
use Rattle.mst_plan.specs.Plan.{AreTrees}
use Rattle.mst_sweep.specs.declared.failure.Failure.{Failure}
use Rattle.mst_sweep.specs.Failures.{failed}
use Rattle.mst_sweeping.proofs.sweeping.put_failed.Goals as goal

pub returns-clause-told : goal.returns-clause-told
returns-clause-told g c = λ is.
    let network = c.args.network.now in
    let new = failed c.args.event.now.failures network.net in
    let trees =
    subst (λ (fs : List Failure). AreTrees (failed fs network.net) network.numbers c.trees_failed.new.seen c.args.plan.now.regions c.in_ok-forest.forest)
    c.failures.ensures c.in_ok-forest.ensures.trees in
    let said = c.in_ok-cuts.ensures network.net new network.numbers network.numbers is trees.forest c.requires.of.of trees.of refl in
    (said.0, record { outcome = trees.forest.outcome; is_outcome = trees.forest.is_outcome; is = said.1 }, λ first before h. said.2 first before h)
