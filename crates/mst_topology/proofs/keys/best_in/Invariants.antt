use Rattle.mst_topology.specs.Best.{IsBestOf}
use Rattle.mst_topology.specs.Keys.{IsKeyIn}
use Rattle.mst_topology.proofs.keys.best_in.Given as goal

abbrev pub invariant-loop-place : goal.invariant-loop-place
invariant-loop-place g l = IsBestOf g.M.Metric.rules.order (IsKeyIn l.entries l.fn.block) l.place l.best
