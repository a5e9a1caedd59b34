use Rattle.std.proofs.Common.{take}
use Rattle.mst_sweep.specs.Failures.{failed}
use Rattle.mst_view.specs.Viewed.{IsView}
use Rattle.mst_sweeping.proofs.failing.with_failures.Given as goal

-- the view is that of the network with the failures so far
abbrev pub invariant-loop-n : goal.invariant-loop-n
invariant-loop-n l = IsView (failed (take l.n l.failures) l.network.net) l.network.numbers l.seen
