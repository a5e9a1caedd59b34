use Rattle.std.proofs.Common.{length}
use Rattle.mst_sweep.specs.Failures.{failed}
use Rattle.mst_view.specs.Viewed.{IsView}
use Rattle.mst_sweeping.proofs.failing.without_failures.Given as goal

-- the view is that of the network with the failures that are left
abbrev pub invariant-loop-last : goal.invariant-loop-last
invariant-loop-last l = IsView (failed l.left l.network.net) l.network.numbers l.seen

abbrev pub decreases-loop-last : goal.decreases-loop-last
decreases-loop-last l = length l.left
