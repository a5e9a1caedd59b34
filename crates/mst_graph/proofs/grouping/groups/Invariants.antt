use Rattle.std.proofs.Common.{◌≡◌, length, map, vec_len, ◌++◌}
use Rattle.mst_graph.specs.Adding.{AreKeyed}
use Rattle.mst_graph.proofs.Grouped.{GroupedBy}
use Rattle.mst_graph.proofs.grouping.groups.Given as goal

-- the things so far stand in groups, and the others are to come
abbrev pub invariant-loop-thing : goal.invariant-loop-thing
invariant-loop-thing g l = record {
  places : vec_len l.groups ≡ length l.keys.keys;
  whole : l.yielded ++ l.thing-iterator.rest.items ≡ l.fn.pairs.items;
  grouped : (key : g.row.T.Denot → g.row.K.Denot) → AreKeyed key l.yielded → GroupedBy g.K.PartialEq.eq key (map (λ p. p.0) l.yielded) l.keys.keys (map (λ v. v.items) l.groups.items);
}
