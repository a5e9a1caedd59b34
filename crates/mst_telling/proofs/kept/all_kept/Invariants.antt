use Rattle.std.proofs.Common.{◌≡◌, ◌++◌, map}
use Rattle.mst_telling.proofs.kept.all_kept.Given as goal

-- those of the lines so far, and the others are to come
abbrev pub invariant-loop-reasons : goal.invariant-loop-reasons
invariant-loop-reasons l = record {
  so_far : map (λ reasons. reasons.items) l.kept.items ≡ map (λ reasons. reasons.items) l.yielded;
  whole : l.yielded ++ l.reasons-iterator.rest.items ≡ l.fn.all.items;
}
