use Rattle.std.proofs.Common.{length}
use Rattle.mst_hints.proofs.meant.+push_paired.Given as goal

abbrev pub decreases-push_paired : goal.decreases-push_paired
decreases-push_paired l = length l.word.now
