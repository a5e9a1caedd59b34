use Rattle.std.proofs.Common.{List, [], ◌∷◌, sym, subst}
use Rattle.mst_plan.specs.forest.Outcome.{IsOutcome}
use Rattle.mst_sweep.specs.CutClasses.{AreKeptAlone, kept_of}
use Rattle.mst_plan.specs.Plan.{AreTrees}
use Rattle.mst_sweep.specs.declared.failure.Failure.{Failure}
use Rattle.mst_sweep.specs.Failures.{failed}
use Rattle.mst_sweep.proofs.Failed.{are_left}
use Rattle.mst_sweeping.proofs.pairing.single_of.Goals as goal

pub returns-clause-single : goal.returns-clause-single
returns-clause-single c = λ is.
    let network = c.args.network.now in
    let f = c.args.failure.now in
    let s = c.in_ok-kept.kept in
    let e = c.in_ok-kept.ensures.failure in
    let trees =
    subst (λ (fs : List Failure). AreTrees (failed fs network.net) network.numbers c.trees_failed.new.seen c.args.plan.now.regions c.in_ok-forest.forest)
    c.from_ref.ensures.value c.in_ok-forest.ensures.trees in
    let p = trees.forest.outcome in
    let kept = c.in_ok-kept.ensures.kept network.net (failed (f ∷ []) network.net) network.numbers network.numbers is trees.forest c.requires.of.of trees.of (are_left (f ∷ []) network.net) in
    record {
      outcome = p;
      is_outcome = subst (λ g. IsOutcome (failed (g ∷ []) network.net) p) (sym e) trees.forest.is_outcome;
      kept = subst (λ g. AreKeptAlone network.net is.outcome (failed (g ∷ []) network.net) network.numbers p c.args.baseline.now.classes (kept_of s)) (sym e) kept;
    }
