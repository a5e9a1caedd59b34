use Rattle.std.proofs.Common.{length}
use Rattle.mst_topology.specs.Best.{IsBestOf}
use Rattle.mst_topology.proofs.Blocks.{IsKeyBefore}
use Rattle.mst_topology.proofs.keys.Keys.least.Given as goal

abbrev pub invariant-loop-best : goal.invariant-loop-best
invariant-loop-best g l = IsBestOf g.M.Metric.rules.order (IsKeyBefore l.self-inside.slots l.best-index) (length l.self-inside.slots) l.least
