use Rattle.std.proofs.Common.{◌≡◌, map, take}
use Rattle.mst_diff.specs.Seen.{seen_sides}
use Rattle.mst_diff.proofs.sides.copies.Given as goal

abbrev pub invariant-loop-both : goal.invariant-loop-both
invariant-loop-both l = map seen_sides l.copied.items ≡ map seen_sides (take l.both-index l.sides)
