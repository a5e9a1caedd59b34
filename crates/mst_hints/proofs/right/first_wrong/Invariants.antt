use Rattle.std.proofs.Common.{◌≡◌, drop}
use Rattle.mst_lang.specs.Words.{words}
use Rattle.mst_hints.specs.Hints.{first_wrong}
use Rattle.mst_hints.proofs.right.first_wrong.Given as goal

abbrev pub invariant-loop-argument : goal.invariant-loop-argument
invariant-loop-argument l = first_wrong l.version (drop l.argument-index l.form) (words l.rest) ≡ first_wrong l.version l.form (words l.arguments)
