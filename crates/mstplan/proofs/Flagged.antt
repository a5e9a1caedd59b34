-- Flags among words, and what is refused with them.
use Rattle.std.proofs.Common.{ℕ, Bool, true, false, List, Option, Some, None, inr}
use Rattle.std.specs.Prelude.{◌&&◌, if◌then◌else◌}
use Rattle.std.specs.Option.{option_and_then}
use Rattle.mst_command.specs.Flags.{takes}
use Rattle.mst_command.specs.Words.{IsRefusal, Request}
use Rattle.mstplan.specs.Words.{are_worded}
use Rattle.mst_command.specs.declared.stop.Stop.{Stop}
use Rattle.mst_command.specs.declared.flags.Flags.{Flags}

-- what refuses words refuses them with flags, too
pub refused_with : (IsThere : List ℕ → Type 0) (words : List (List ℕ)) (flags : Flags) (asked : Option Request) (stop : Stop) → IsRefusal IsThere words asked stop
    → IsRefusal IsThere words (option_and_then (λ request. if are_worded request && takes flags request.verb then Some request else None) asked) stop
refused_with IsThere words flags None stop h = h
refused_with IsThere words flags (Some request) stop h = by (are_worded request && takes flags request.verb)
  where
    by : (b : Bool) → IsRefusal IsThere words (if b then Some request else None) stop
    by true = h
    by false = inr h
