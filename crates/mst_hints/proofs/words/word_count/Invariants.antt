use Rattle.std.proofs.Common.{◌≡◌, ◌+◌, ◌≤◌, length}
use Rattle.mst_lang.specs.Words.{words}
use Rattle.mst_hints.proofs.words.word_count.Given as goal

abbrev pub invariant-loop-others : goal.invariant-loop-others
invariant-loop-others l = (l.count + length (words l.rest) ≡ length (words l.text)) × (l.count + length l.rest ≤ length l.text)

abbrev pub decreases-loop-others : goal.decreases-loop-others
decreases-loop-others l = length l.rest
