use Rattle.std.proofs.Common.{◌++◌, List, map, take}
use Rattle.mst_rows.specs.Rows.{Row}
use Rattle.mst_telling.specs.Judged.{AreTexts}
use Rattle.mst_telling.specs.Rows.{row_at}
use Rattle.mst_telling.specs.Texts.{news}
use Rattle.mst_telling.specs.Told.{reason_rows}
use Rattle.mst_telling.specs.contracts.news.put_unless.{R-type}
use Rattle.mst_telling.proofs.news.put_unless.Given as goal

-- the rows of those of the reasons so far
abbrev pub invariant-loop-reason : goal.invariant-loop-reason
invariant-loop-reason g l =
    (those : List Row) → AreTexts those l.texts → (first : R-type g.row.R) (rows : List Row) → g.R.Rows.grew first l.fn.out rows
    → g.R.Rows.grew first l.out (rows ++ map (row_at l.at.step) (news those (reason_rows l.at.number l.place (take l.reason-index l.reasons))))
