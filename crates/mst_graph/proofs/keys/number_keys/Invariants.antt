use Rattle.std.proofs.Common.{◌≡◌, ◌++◌}
use Rattle.mst_graph.proofs.NumberedKeys.{Numbered}
use Rattle.mst_graph.proofs.keys.number_keys.Given as goal

-- the keys so far are numbered, and the others are to come
abbrev pub invariant-loop-key : goal.invariant-loop-key
invariant-loop-key g l = record {
  whole : l.yielded ++ l.key-iterator.rest.items ≡ l.fn.keys.items;
  numbered : Numbered g.K.PartialEq.eq l.yielded l.met.keys l.numbers.items l.firsts.items;
}
