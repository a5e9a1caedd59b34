use Rattle.std.proofs.Common.{◌≡◌, map, take}
use Rattle.mst_graph.specs.Adding.{AreKeyed}
use Rattle.mst_graph.specs.Numbers.{HaveBodies}
use Rattle.mst_graph.proofs.ByBody.{key_by}
use Rattle.mst_graph.proofs.bodies.groups_by_body.Given as goal

-- the things so far have the numbers of their bodies for keys
abbrev pub invariant-loop-place : goal.invariant-loop-place
invariant-loop-place g l = record {
  things : map (λ p. p.0) l.pairs.items ≡ take l.place l.things;
  keyed : (body : g.row.T.Denot → g.row.B.Denot) → HaveBodies g.B.PartialEq.eq body l.things l.numbers l.fn.bodies.items → AreKeyed (key_by g.B.PartialEq.eq body l.fn.bodies.items l.joined.numbers.items) l.pairs.items;
}
