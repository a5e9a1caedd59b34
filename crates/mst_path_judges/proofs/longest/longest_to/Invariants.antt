use Rattle.std.proofs.Common.{take}
use Rattle.mst_path_judges.specs.Spans.{FirstSpan, IsCountedTo}
use Rattle.mst_path_judges.proofs.longest.longest_to.Given as goal

-- the first of the spans from the places so far
abbrev pub invariant-loop-place : goal.invariant-loop-place
invariant-loop-place l = FirstSpan (IsCountedTo l.ports l.counts (take l.place-index l.places) l.to) l.longest
