use Rattle.std.proofs.Common.{◌≡◌, List, ◌++◌, drop}
use Rattle.std.specs.List.{AllByRecursion, Contains}
use Rattle.mst_rows.specs.Rows.{Row}
use Rattle.mst_text.specs.TreeRuns.{bridge_with, by_runs}
use Rattle.mst_text.specs.contracts.tree.put_bridges.{R-type}
use Rattle.mst_text.proofs.tree.put_bridges.Given as goal

-- the rows that were put yet, and those that the bridges and ports that are left give; these ports are of the view
abbrev pub invariant-loop-bridge : goal.invariant-loop-bridge
invariant-loop-bridge g l =
    ((first : R-type g.row.R) (rows : List Row) → g.R.Rows.grew first l.fn.out rows
    → (now : List Row) × g.R.Rows.grew first l.out now
    × (now ++ by_runs (bridge_with l.plan l.tree) (drop l.bridge-index l.bridge-items) l.rest ≡ rows ++ by_runs (bridge_with l.plan l.tree) l.plan.view.bridges l.plan.view.ports))
    × AllByRecursion (Contains l.plan.view.ports) l.rest
