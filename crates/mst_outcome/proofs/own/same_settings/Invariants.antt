use Rattle.std.proofs.Common.{◌≡◌, ◌++◌, take}
use Rattle.mst_outcome.proofs.own.same_settings.Given as goal

-- those before the place and what is left of the map are all of the map
abbrev pub invariant-loop-place : goal.invariant-loop-place
invariant-loop-place g l = take l.place l.here ++ l.rest ≡ l.there.entries
