use Rattle.std.proofs.Common.{◌++◌, List, None, map, take}
use Rattle.std.specs.List.{filter}
use Rattle.mst_rows.specs.Rows.{Row}
use Rattle.mst_telling.specs.Judged.{AreTexts}
use Rattle.mst_telling.specs.Rows.{row_at}
use Rattle.mst_telling.specs.Texts.{is_told, news}
use Rattle.mst_telling.specs.Told.{reason_rows}
use Rattle.mst_telling.specs.contracts.once.put_told.{R-type}
use Rattle.mst_telling.proofs.once.put_told.Given as goal

-- the rows of those of the reasons so far
abbrev pub invariant-loop-reason : goal.invariant-loop-reason
invariant-loop-reason g l =
    (those before : List Row) → AreTexts those l.left → AreTexts before l.told → (first : R-type g.row.R) (rows : List Row) → g.R.Rows.grew first l.fn.out rows
    → g.R.Rows.grew first l.out (rows ++ map (row_at l.at.step) (news before (filter (is_told those) (reason_rows l.at.number None (take l.reason-index l.reasons)))))
