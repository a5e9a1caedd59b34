use Rattle.std.proofs.Common.{◌≡◌, ◌+◌, length, map, take}
use Rattle.std.specs.List.{AllZip}
use Rattle.mst_diff.specs.Seen.{AreSidesOf, seen_sides}
use Rattle.mst_diff.proofs.reach.sides_at.Given as goal

-- the sides of the places so far
abbrev pub invariant-loop-i : goal.invariant-loop-i
invariant-loop-i l = record {
  as_long : length l.all.items ≡ l.i;
  sides : AllZip (λ place both. AreSidesOf l.both.old.now l.both.new.now (place + 1) both) (take l.i l.places) (map seen_sides l.all.items);
}
