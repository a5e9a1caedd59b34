use Rattle.std.proofs.Common.{◌++◌, List, map, take}
use Rattle.mst_rows.specs.Rows.{Row}
use Rattle.mst_telling.specs.Judged.{AreTexts, found_at}
use Rattle.mst_telling.specs.Once.{rows_now, told_now}
use Rattle.mst_telling.specs.Rows.{row_at}
use Rattle.mst_telling.specs.Texts.{news}
use Rattle.mst_telling.specs.contracts.once.put_now.{R-type}
use Rattle.mst_telling.proofs.once.put_now.Given as goal

-- the rows of the places so far
abbrev pub invariant-loop-finding : goal.invariant-loop-finding
invariant-loop-finding g l =
    (those before : List Row) → AreTexts those l.left → AreTexts before l.folding.told.now → (first : R-type g.row.R) (rows : List Row) → g.R.Rows.grew first l.fn.out rows
    → g.R.Rows.grew first l.out (rows ++ map (row_at l.folding.step) (news before (told_now l.folding.scope.now (rows_now l.folding.number (map (found_at l.n) (take l.finding-index l.found))) those)))
