use Rattle.std.proofs.Common.{◌≡◌, map, take, get_or}
use Rattle.mst_path.specs.Counts.{hops_at}
use Rattle.mst_path.proofs.counting.counted.Given as goal

-- the hops of the bridges so far
abbrev pub invariant-loop-bridge : goal.invariant-loop-bridge
invariant-loop-bridge l = l.counts.items ≡ map (λ x. hops_at (get_or l.depths x 0)) (take l.bridge-index l.bridges)
