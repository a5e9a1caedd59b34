use Rattle.std.proofs.Common.{◌≡◌, take}
use Rattle.mst_summary.specs.Places.{with_places}
use Rattle.mst_summary.proofs.crossing.crossing_at.Given as goal

-- of the ports so far
abbrev pub invariant-loop-place : goal.invariant-loop-place
invariant-loop-place l = l.crossing ≡ with_places l.carriage.view l.carriage.forest l.vid (take l.place-index l.places)
