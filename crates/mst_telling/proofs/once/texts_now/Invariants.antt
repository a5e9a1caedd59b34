use Rattle.std.proofs.Common.{map, take}
use Rattle.mst_telling.specs.Judged.{AreTexts, found_at}
use Rattle.mst_telling.specs.Once.{rows_now}
use Rattle.mst_telling.proofs.once.texts_now.Given as goal

-- the lines of text of the places so far
abbrev pub invariant-loop-finding : goal.invariant-loop-finding
invariant-loop-finding l = AreTexts (rows_now l.number (map (found_at l.n) (take l.finding-index l.found))) l.texts
