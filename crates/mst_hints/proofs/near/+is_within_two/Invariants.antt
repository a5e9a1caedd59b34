use Rattle.std.proofs.Common.{length}
use Rattle.mst_hints.proofs.near.+is_within_two.Given as goal

abbrev pub decreases-is_within_two : goal.decreases-is_within_two
decreases-is_within_two l = length l.one.now
