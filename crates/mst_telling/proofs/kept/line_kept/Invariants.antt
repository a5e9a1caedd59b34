use Rattle.std.proofs.Common.{◌≡◌, ◌++◌}
use Rattle.mst_telling.proofs.kept.line_kept.Given as goal

-- the reasons so far, and the others are to come
abbrev pub invariant-loop-reason : goal.invariant-loop-reason
invariant-loop-reason l = record {
  so_far : l.kept.items ≡ l.yielded;
  whole : l.yielded ++ l.reason-iterator.rest.items ≡ l.fn.reasons.items;
}
