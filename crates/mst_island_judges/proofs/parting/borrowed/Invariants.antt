use Rattle.std.proofs.Common.{◌≡◌, map, take}
use Rattle.mst_island_judges.proofs.parting.borrowed.Given as goal

-- those so far
abbrev pub invariant-loop-parts : goal.invariant-loop-parts
invariant-loop-parts l = map (λ parts. parts.now) l.borrowed.items ≡ take l.parts-index l.bodies
