use Rattle.std.proofs.Common.{◌++◌, List, map, take}
use Rattle.mst_rows.specs.Rows.{Row}
use Rattle.mst_telling.specs.Judged.{AreTexts, found_at}
use Rattle.mst_telling.specs.Rows.{row_at}
use Rattle.mst_telling.specs.Texts.{news}
use Rattle.mst_telling.specs.Told.{found_rows}
use Rattle.mst_telling.specs.contracts.news.put_all_unless.{R-type}
use Rattle.mst_telling.proofs.news.put_all_unless.Given as goal

-- the rows of the places so far
abbrev pub invariant-loop-finding : goal.invariant-loop-finding
invariant-loop-finding g l =
    (those : List Row) → AreTexts those l.texts → (first : R-type g.row.R) (rows : List Row) → g.R.Rows.grew first l.fn.out rows
    → g.R.Rows.grew first l.out (rows ++ map (row_at l.at.step) (news those (found_rows l.at.number (map (found_at l.n) (take l.finding-index l.found)))))
