use Rattle.std.proofs.Common.{length}
use Rattle.mst_lang.specs.Words.{words}
use Rattle.mst_policy.proofs.wording.+push_words.Given as goal

abbrev pub decreases-push_words : goal.decreases-push_words
decreases-push_words l = length (words l.text.now)
