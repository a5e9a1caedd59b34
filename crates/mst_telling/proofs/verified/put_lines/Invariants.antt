use Rattle.std.proofs.Common.{◌≡◌, ◌++◌, List, map, take}
use Rattle.mst_rows.specs.Rows.{Row}
use Rattle.mst_graph.specs.Lists.{has_any}
use Rattle.mst_telling.specs.Judged.{verdicts_by}
use Rattle.mst_telling.specs.Verified.{joined}
use Rattle.mst_telling.specs.contracts.verified.put_lines.{R-type}
use Rattle.mst_telling.proofs.verified.put_lines.Given as goal

-- the rows of the lines so far, and which of these have some
abbrev pub invariant-loop-n : goal.invariant-loop-n
invariant-loop-n g l = record {
  is : l.flags.items ≡ map has_any (verdicts_by (take l.n l.lines) l.judgement);
  put : (first : R-type g.row.R) (rows : List Row) → g.R.Rows.grew first l.fn.out rows → g.R.Rows.grew first l.out (rows ++ joined (verdicts_by (take l.n l.lines) l.judgement));
}
