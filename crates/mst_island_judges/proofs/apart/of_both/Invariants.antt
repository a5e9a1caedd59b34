use Rattle.std.proofs.Common.{◌≡◌, ◌++◌, filter, map}
use Rattle.std.specs.Option.{option_copied}
use Rattle.mst_island_judges.specs.Seen.{are_of_both}
use Rattle.mst_island_judges.proofs.apart.of_both.Given as goal

-- those of the parts so far
abbrev pub invariant-loop-part : goal.invariant-loop-part
invariant-loop-part l = record {
  whole : l.yielded ++ l.part-iterator.rest.items ≡ l.fn.parts.items;
  both : map (λ part. part.items) l.both.items ≡ filter (are_of_both l.fn.judged.lost.now l.names (option_copied l.others)) (map (λ part. part.items) l.yielded);
}
