use Rattle.std.proofs.Common.{length}
use Rattle.mst_hints.proofs.tools.+shares_word.Given as goal

abbrev pub decreases-shares_word : goal.decreases-shares_word
decreases-shares_word l = length l.text.now
