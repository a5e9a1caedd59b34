use Rattle.std.proofs.Common.{ℕ, ◌<◌}
use Rattle.mst_topology.specs.Slots.{HasRoom}
use Rattle.mst_settle.proofs.settler.Settler.with_space.Given as goal

-- there is space for the bridges below the next, and then for the LANs
abbrev pub invariant-loop-bridge : goal.invariant-loop-bridge
invariant-loop-bridge g l = (n : ℕ) → n < l.bridge → HasRoom l.settler.touched_bridges n

abbrev pub invariant-loop-lan : goal.invariant-loop-lan
invariant-loop-lan g l = record {
  bridges : (n : ℕ) → n < l.bridges → HasRoom l.settler.touched_bridges n;
  lans : (lan : ℕ) → lan < l.lan → HasRoom l.settler.touched_lans lan;
}
