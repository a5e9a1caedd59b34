use Rattle.std.proofs.Common.{◌++◌, List, take}
use Rattle.std.specs.List.{flat_map}
use Rattle.mst_rows.specs.Rows.{Row}
use Rattle.mst_telling.specs.Judged.{change_at, each_from}
use Rattle.mst_telling.specs.Steps.{mends}
use Rattle.mst_telling.specs.contracts.steps.put_all_mends.{R-type}
use Rattle.mst_telling.proofs.steps.put_all_mends.Given as goal

-- the rows of the lines so far
abbrev pub invariant-loop-n : goal.invariant-loop-n
invariant-loop-n g l =
    (first : R-type g.row.R) (rows : List Row) → g.R.Rows.grew first l.fn.out rows
    → g.R.Rows.grew first l.out (rows ++ flat_map (mends l.step) (each_from (λ n line. change_at n line l.before l.now) 0 (take l.n l.lines)))
