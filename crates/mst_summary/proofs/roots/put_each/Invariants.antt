use Rattle.std.proofs.Common.{List, ◌++◌, take}
use Rattle.std.specs.List.{flat_map}
use Rattle.mst_rows.specs.Rows.{Row}
use Rattle.mst_summary.specs.Seen.{seen_root}
use Rattle.mst_summary.specs.contracts.roots.put_each.{R-type}
use Rattle.mst_summary.proofs.roots.put_each.Given as goal

-- the rows of the bridges so far
abbrev pub invariant-loop-bridge : goal.invariant-loop-bridge
invariant-loop-bridge g l = (first : R-type g.row.R) (rows : List Row) → g.R.Rows.grew first l.fn.out rows → g.R.Rows.grew first l.out (rows ++ flat_map (seen_root l.plan l.tree l.followers) (take l.bridge-index l.plan.view.bridges))
