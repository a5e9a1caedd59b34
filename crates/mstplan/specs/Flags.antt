-- The flags that stand among the program's words, wherever they stand before the first `--`.
use Rattle.std.specs.Prelude.{ℕ, ◌&&◌, List, Option, Some, None, if◌then◌else◌}
use Rattle.std.specs.Option.{option_and_then}
use Rattle.mst_command.specs.Words.{Request, asked_by}
use Rattle.mstplan.specs.Words.{are_worded}
use Rattle.mst_command.specs.declared.flags.Flags.{Flags}
use Rattle.mst_command.specs.Flags.{takes}

-- what words that aren't options ask for with these flags, where those for a part of a sweep, a picture or advice are some
abbrev pub asked_with : Flags → List (List ℕ) → Option Request
asked_with flags words = option_and_then (λ request. if are_worded request && takes flags request.verb then Some request else None) (asked_by words)
