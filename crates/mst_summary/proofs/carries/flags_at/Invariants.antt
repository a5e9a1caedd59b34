use Rattle.std.proofs.Common.{◌≡◌, ◌+◌, length, take}
use Rattle.std.specs.List.{AllZip}
use Rattle.mst_summary.specs.Places.{with_places}
use Rattle.mst_summary.proofs.carries.flags_at.Given as goal

-- the flags of the places so far
abbrev pub invariant-loop-place : goal.invariant-loop-place
invariant-loop-place l = record {
  as_long : length l.flags.items ≡ l.place-index;
  flags : AllZip (λ place flag. flag ≡ (with_places l.carriage.view l.carriage.forest (place + 1) l.ports).is_of_two) (take l.place-index l.places) l.flags.items;
}
