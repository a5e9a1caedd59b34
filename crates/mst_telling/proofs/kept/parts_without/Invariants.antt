use Rattle.std.proofs.Common.{◌≡◌, map, take}
use Rattle.mst_telling.specs.Kept.{parts_but}
use Rattle.mst_telling.proofs.kept.parts_without.Given as goal

-- the parts so far
abbrev pub invariant-loop-part : goal.invariant-loop-part
invariant-loop-part l = map (λ part. part.items) l.others.items ≡ parts_but l.name (map (λ part. part.items) (take l.part-index l.parts))
