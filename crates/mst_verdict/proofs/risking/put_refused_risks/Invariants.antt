use Rattle.std.proofs.Common.{◌≡◌, ◌≤◌, ◌++◌, List, length, take}
use Rattle.mst_rows.specs.Rows.{Row}
use Rattle.mst_verdict.specs.Risking.{refused_risks}
use Rattle.mst_verdict.specs.contracts.risking.put_refused_risks.{R-type}
use Rattle.mst_verdict.proofs.risking.put_refused_risks.Given as goal

-- the rows of the lines so far, and how many there are
abbrev pub invariant-loop-line : goal.invariant-loop-line
invariant-loop-line g l = record {
  counted : l.count ≡ length (refused_risks l.plan.net (take l.line-index l.lines));
  few : l.count ≤ l.line-index;
  put : (first : R-type g.row.R) (rows : List Row) → g.R.Rows.grew first l.fn.out rows → g.R.Rows.grew first l.out (rows ++ refused_risks l.plan.net (take l.line-index l.lines));
}
