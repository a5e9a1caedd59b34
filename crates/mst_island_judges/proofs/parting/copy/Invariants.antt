use Rattle.std.proofs.Common.{◌≡◌, map, take}
use Rattle.mst_island_judges.proofs.parting.copy.Given as goal

-- the copies so far
abbrev pub invariant-loop-part : goal.invariant-loop-part
invariant-loop-part l = map (λ part. part.items) l.copied.items ≡ map (λ part. part.items) (take l.part-index l.parts)
