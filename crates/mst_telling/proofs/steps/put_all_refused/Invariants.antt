use Rattle.std.proofs.Common.{◌++◌, List, map, take}
use Rattle.std.specs.List.{flat_map}
use Rattle.mst_rows.specs.Rows.{Row}
use Rattle.mst_telling.specs.Judged.{change_at, each_from}
use Rattle.mst_telling.specs.Rows.{behind}
use Rattle.mst_telling.specs.Steps.{new_refused}
use Rattle.mst_telling.specs.contracts.steps.put_all_refused.{R-type}
use Rattle.mst_telling.proofs.steps.put_all_refused.Given as goal

-- the rows of the lines so far
abbrev pub invariant-loop-n : goal.invariant-loop-n
invariant-loop-n g l =
    (first : R-type g.row.R) (rows : List Row) → g.R.Rows.grew first l.fn.out rows
    → g.R.Rows.grew first l.out (rows ++ map (behind l.step) (flat_map new_refused (each_from (λ n line. change_at n line l.before l.now) 0 (take l.n l.lines))))
