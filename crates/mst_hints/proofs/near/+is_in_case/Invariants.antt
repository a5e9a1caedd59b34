use Rattle.std.proofs.Common.{length}
use Rattle.mst_hints.proofs.near.+is_in_case.Given as goal

abbrev pub decreases-is_in_case : goal.decreases-is_in_case
decreases-is_in_case l = length l.command.now
