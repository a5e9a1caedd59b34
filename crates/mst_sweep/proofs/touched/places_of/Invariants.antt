use Rattle.std.proofs.Common.{◌≡◌, ℕ, ◌<◌, false, true, get_or}
use Rattle.std.specs.List.{Contains}
use Rattle.mst_sweep.proofs.touched.places_of.Given as goal

-- those so far whose flags are set
abbrev pub invariant-loop-place : goal.invariant-loop-place
invariant-loop-place l = (k : ℕ) → k < l.place → get_or l.flags k false ≡ true → Contains l.places.items k
