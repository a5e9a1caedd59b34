use Rattle.std.proofs.Common.{take}
use Rattle.mst_view.specs.Viewed.{IsView}
use Rattle.mst_plan.specs.forest.Forest.{IsForest}
use Rattle.mst_sweeping.specs.Pairing.{AreSingles}
use Rattle.mst_sweeping.proofs.pairing.singles_of.Given as goal

-- what is kept of the failures so far alone, and the view of the network
abbrev pub invariant-loop-failure : goal.invariant-loop-failure
invariant-loop-failure l = record {
  singles : (is : IsForest l.network.net l.network.numbers l.plan.forest) → AreSingles l.network.net l.network.numbers is.outcome l.baseline (take l.failure-index l.failures) l.singles.items;
  seen : IsView l.network.net l.network.numbers l.seen;
}
