use Rattle.std.proofs.Common.{length}
use Rattle.mst_hints.proofs.near.+is_within_one.Given as goal

abbrev pub decreases-is_within_one : goal.decreases-is_within_one
decreases-is_within_one l = length l.one.now
