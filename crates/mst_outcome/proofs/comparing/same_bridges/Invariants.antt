use Rattle.std.proofs.Common.{◌≡◌, take}
use Rattle.mst_outcome.proofs.comparing.same_bridges.Given as goal

-- the bridges before the place are the same
abbrev pub invariant-loop-place : goal.invariant-loop-place
invariant-loop-place g l = take l.place l.here ≡ take l.place l.there
