use Rattle.std.proofs.Common.{◌≡◌, drop, map, string_bytes}
use Rattle.mst_command.specs.Flags.{has_flag}
use Rattle.mst_command.proofs.flags.has_flag.Given as goal

-- it stands there just where it does among the words that are left
abbrev pub invariant-loop-word : goal.invariant-loop-word
invariant-loop-word l = has_flag l.flag (map string_bytes l.words) ≡ has_flag l.flag (map string_bytes (drop l.word-index l.words))
