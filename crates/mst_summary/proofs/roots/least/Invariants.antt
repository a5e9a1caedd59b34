use Rattle.std.proofs.Common.{◌≡◌, take}
use Rattle.mst_summary.specs.Roots.{least}
use Rattle.mst_summary.proofs.roots.least.Given as goal

-- the least of those so far
abbrev pub invariant-loop-follower : goal.invariant-loop-follower
invariant-loop-follower l = l.least ≡ least (take l.follower-index l.followers)
