use Rattle.std.proofs.Common.{ℕ, take}
use Rattle.std.specs.List.{All}
use Rattle.mst_settle.specs.Settler.{KeepsOutcome}
use Rattle.mst_settle.specs.Differences.{BridgeIsDone}
use Rattle.mst_settle.proofs.differences.touch_bridges.Given as goal

abbrev pub invariant-loop-bridge : goal.invariant-loop-bridge
invariant-loop-bridge g l = record {
  keeps : KeepsOutcome l.fn.settler l.settler;
  done : All (λ (e : ℕ × g.row.M-Bridge.Denot). BridgeIsDone l.here l.there l.settler e.0 e.1) (take l.bridge-index l.here.bridges);
}
