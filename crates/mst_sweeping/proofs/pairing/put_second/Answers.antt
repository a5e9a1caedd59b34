use Rattle.std.proofs.Common.{refl}
use Rattle.mst_sweeping.proofs.pairing.put_second.Goals as goal

pub returns-clause-told : goal.returns-clause-told
returns-clause-told g c = λ is one other.
    let network = c.args.pairing.now.network.now in
    let trees = c.in_ok-forest.ensures.trees in
    let said = c.in_ok-cuts.ensures network.net network.numbers is.plan.forest trees.forest one.outcome other.outcome is.plan.of trees.of one.kept other.kept in (
      said.0,
      record {
        outcomes = record { none = is.plan.forest.outcome; first = one.outcome; second = other.outcome; both = trees.forest.outcome };
        none = refl;
        are_outcomes = record { none = is.plan.forest.is_outcome; first = one.is_outcome; second = other.is_outcome; both = trees.forest.is_outcome };
        is = said.1;
      },
      λ first before h. said.2 first before h,
    )
