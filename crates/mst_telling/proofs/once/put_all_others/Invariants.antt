use Rattle.std.proofs.Common.{◌++◌, List, map, take}
use Rattle.std.specs.List.{flat_map}
use Rattle.mst_rows.specs.Rows.{Row}
use Rattle.mst_telling.specs.Judged.{AreTexts, FoldsBy, found_at}
use Rattle.mst_telling.specs.Once.{others}
use Rattle.mst_telling.specs.Rows.{row_at}
use Rattle.mst_telling.specs.Texts.{news}
use Rattle.mst_telling.specs.contracts.once.put_all_others.{R-type}
use Rattle.mst_telling.proofs.once.put_all_others.Given as goal

-- the rows of the places so far
abbrev pub invariant-loop-finding : goal.invariant-loop-finding
invariant-loop-finding g l =
    (nows before : List Row) → FoldsBy nows l.folding → AreTexts before l.folding.told.now → (first : R-type g.row.R) (rows : List Row) → g.R.Rows.grew first l.fn.out rows
    → g.R.Rows.grew first l.out (rows ++ map (row_at l.folding.step) (news before (flat_map (others l.folding.number l.folding.scope.now nows) (map (found_at l.n) (take l.finding-index l.found)))))
