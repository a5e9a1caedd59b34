use Rattle.std.proofs.Common.{◌≡◌, ◌≤◌, ◌++◌, List, length, take}
use Rattle.mst_rows.specs.Rows.{Row}
use Rattle.mst_telling.specs.Judged.{refused_by}
use Rattle.mst_telling.specs.contracts.verified.put_refused.{R-type}
use Rattle.mst_telling.proofs.verified.put_refused.Given as goal

-- the rows of the lines so far, and how many there are
abbrev pub invariant-loop-n : goal.invariant-loop-n
invariant-loop-n g l = record {
  counted : l.count ≡ length (refused_by (take l.n l.lines) l.judgement);
  few : l.count ≤ l.n;
  put : (first : R-type g.row.R) (rows : List Row) → g.R.Rows.grew first l.fn.out rows → g.R.Rows.grew first l.out (rows ++ refused_by (take l.n l.lines) l.judgement);
}
