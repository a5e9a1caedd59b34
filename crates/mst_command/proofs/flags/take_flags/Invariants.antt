use Rattle.std.proofs.Common.{◌-◌, length, map, string_bytes}
use Rattle.mst_command.specs.Flags.{without_flags_behind}
use Rattle.mst_command.proofs.Parting.{LookedAt}
use Rattle.mst_command.proofs.flags.take_flags.Given as goal

-- no flag is left before this place, and nothing else is gone
abbrev pub invariant-loop-place : goal.invariant-loop-place
invariant-loop-place l = LookedAt (without_flags_behind (map string_bytes l.fn.words.items)) l.words.items l.place

abbrev pub decreases-loop-place : goal.decreases-loop-place
decreases-loop-place l = length l.words.items - l.place
