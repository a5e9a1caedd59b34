use Rattle.std.proofs.Common.{◌≡◌, ℕ, ◌<◌, ◌⊎◌}
use Rattle.mst_topology.specs.Places.{in_map}
use Rattle.mst_settle.specs.Settler.{KeepsOutcome}
use Rattle.mst_settle.specs.Differences.{NumberIsDone}
use Rattle.mst_settle.proofs.differences.touch_own.Given as goal

-- below the number a port has the same settings of its own in both, or the ports are the same or touched
abbrev pub invariant-loop-number : goal.invariant-loop-number
invariant-loop-number g l = record {
  keeps : KeepsOutcome l.fn.settler l.settler;
  done : (n : ℕ) → n < l.number → (in_map l.own_from n ≡ in_map l.own_to n) ⊎ NumberIsDone l.from l.to l.settler n;
}
