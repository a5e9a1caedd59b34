use Rattle.std.proofs.Common.{length}
use Rattle.mst_hints.proofs.words.+has_comment.Given as goal

abbrev pub decreases-has_comment : goal.decreases-has_comment
decreases-has_comment l = length l.text.now
