use Rattle.std.proofs.Common.{◌++◌, List, take}
use Rattle.mst_rows.specs.Rows.{Row}
use Rattle.mst_verdict.specs.Setting.{IsMade, after_lines, refused_lines}
use Rattle.mst_verdict.specs.contracts.setting.make_lines.{R-type}
use Rattle.mst_verdict.proofs.setting.make_lines.Given as goal

-- what the lines so far have made, and the rows of those that are refused
abbrev pub invariant-loop-line : goal.invariant-loop-line
invariant-loop-line g l = record {
  made : IsMade l.fn.network l.network (after_lines l.fn.network.net (take l.line-index l.lines)) (refused_lines l.fn.step l.fn.network.net (take l.line-index l.lines)) (record { refused = l.refused; regions_stand = l.regions_stand });
  put : (first : R-type g.row.R) (rows : List Row) → g.R.Rows.grew first l.fn.out rows → g.R.Rows.grew first l.out (rows ++ refused_lines l.fn.step l.fn.network.net (take l.line-index l.lines));
}
