use Rattle.std.proofs.Common.{◌≡◌, drop, map, string_bytes}
use Rattle.mst_command.specs.Strays.{first_unknown}
use Rattle.mst_command.proofs.strays.first_unknown.Given as goal

-- the first of them is the first of those that are left
abbrev pub invariant-loop-word : goal.invariant-loop-word
invariant-loop-word l = first_unknown (map string_bytes l.words) ≡ first_unknown (map string_bytes (drop l.word-index l.words))
