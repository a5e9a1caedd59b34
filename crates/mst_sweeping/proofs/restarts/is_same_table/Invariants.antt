use Rattle.std.proofs.Common.{◌≡◌, take}
use Rattle.mst_sweeping.proofs.restarts.is_same_table.Given as goal

abbrev pub invariant-loop-place : goal.invariant-loop-place
invariant-loop-place l = take l.place l.ours ≡ take l.place l.theirs
