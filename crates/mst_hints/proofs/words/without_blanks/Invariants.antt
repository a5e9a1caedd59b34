use Rattle.std.proofs.Common.{◌≡◌, drop}
use Rattle.mst_lang.specs.Words.{words}
use Rattle.mst_hints.proofs.words.without_blanks.Given as goal

abbrev pub invariant-loop-i : goal.invariant-loop-i
invariant-loop-i l = words (drop l.i l.text) ≡ words l.text
