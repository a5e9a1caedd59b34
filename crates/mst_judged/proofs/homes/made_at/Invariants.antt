use Rattle.std.proofs.Common.{◌≡◌, length, take}
use Rattle.mst_judged.specs.Islands.{AreMadeBy}
use Rattle.mst_judged.proofs.homes.made_at.Given as goal

-- those of the classes so far
abbrev pub invariant-loop-class : goal.invariant-loop-class
invariant-loop-class l = record { as_long : length l.made.items ≡ l.class; made : AreMadeBy l.carriage (take l.class l.places) l.made.items }
