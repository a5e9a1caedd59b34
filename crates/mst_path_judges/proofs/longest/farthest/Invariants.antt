use Rattle.std.proofs.Common.{take}
use Rattle.mst_path_judges.specs.Longest.{IsFoundSpan}
use Rattle.mst_path_judges.specs.Spans.{FirstSpan}
use Rattle.mst_path_judges.proofs.longest.farthest.Given as goal

-- the first of the spans to the places so far
abbrev pub invariant-loop-to : goal.invariant-loop-to
invariant-loop-to l = FirstSpan (IsFoundSpan l.ports l.places (take l.to-index l.places)) l.longest
