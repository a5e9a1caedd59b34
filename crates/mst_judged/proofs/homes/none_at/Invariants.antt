use Rattle.std.proofs.Common.{◌≡◌, length, take}
use Rattle.mst_roles.specs.forest.Settled.{SettledNet}
use Rattle.mst_judged.specs.Islands.{AreMade}
use Rattle.mst_judged.proofs.homes.none_at.Given as goal

-- none of the classes so far
abbrev pub invariant-loop-class : goal.invariant-loop-class
invariant-loop-class l = record { as_long : length l.made.items ≡ l.class; made : (s : SettledNet) → AreMade s (take l.class l.places) l.made.items }
