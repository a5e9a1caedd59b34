use Rattle.std.proofs.Common.{◌++◌, List, map, take}
use Rattle.mst_rows.specs.Rows.{Row}
use Rattle.mst_telling.specs.Judged.{AreTexts, FoldsBy}
use Rattle.mst_telling.specs.Once.{kept_rows}
use Rattle.mst_telling.specs.Rows.{row_at}
use Rattle.mst_telling.specs.Texts.{news}
use Rattle.mst_telling.specs.contracts.once.put_kept.{R-type}
use Rattle.mst_telling.proofs.once.put_kept.Given as goal

-- the rows of those of the reasons so far
abbrev pub invariant-loop-reason : goal.invariant-loop-reason
invariant-loop-reason g l =
    (nows before : List Row) → FoldsBy nows l.folding → AreTexts before l.folding.told.now → (first : R-type g.row.R) (rows : List Row) → g.R.Rows.grew first l.fn.out rows
    → g.R.Rows.grew first l.out (rows ++ map (row_at l.folding.step) (news before (kept_rows l.folding.number l.folding.scope.now nows l.place (take l.reason-index l.reasons))))
