use Rattle.std.proofs.Common.{◌≡◌, ℕ, ◌<◌, ◌⊎◌}
use Rattle.mst_topology.specs.Places.{in_map}
use Rattle.mst_settle.proofs.Rewired.{AreSameAt}
use Rattle.mst_settle.proofs.differences.same_at_own.Given as goal

-- below the number a port has the same settings of its own in both, or both topologies have the same port of it
abbrev pub invariant-loop-number : goal.invariant-loop-number
invariant-loop-number g l = (n : ℕ) → n < l.number → (in_map l.own_from n ≡ in_map l.own_to n) ⊎ AreSameAt l.from l.to n
