use Rattle.std.proofs.Common.{ℕ, take}
use Rattle.std.specs.List.{All}
use Rattle.mst_topology.specs.Slots.{HasRoom}
use Rattle.mst_settle.specs.Settler.{KeepsOutcome}
use Rattle.mst_settle.proofs.differences.reserve_bridges.Given as goal

abbrev pub invariant-loop-bridge : goal.invariant-loop-bridge
invariant-loop-bridge g l = record {
  keeps : KeepsOutcome l.fn.settler l.settler;
  room : All (λ (e : ℕ × g.row.M-Bridge.Denot). HasRoom l.settler.touched_bridges e.0) (take l.bridge-index l.topology.bridges);
}
