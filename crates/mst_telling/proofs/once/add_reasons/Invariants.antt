use Rattle.std.proofs.Common.{◌++◌, List, take}
use Rattle.mst_rows.specs.Rows.{Row}
use Rattle.mst_telling.specs.Judged.{AreTexts}
use Rattle.mst_telling.specs.Told.{reason_rows}
use Rattle.mst_telling.proofs.once.add_reasons.Given as goal

-- the lines of text of the reasons so far
abbrev pub invariant-loop-reason : goal.invariant-loop-reason
invariant-loop-reason l = (rows : List Row) → AreTexts rows l.fn.texts → AreTexts (rows ++ reason_rows l.number l.place (take l.reason-index l.reasons)) l.texts
