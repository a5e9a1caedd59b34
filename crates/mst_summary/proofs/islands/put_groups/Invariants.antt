use Rattle.std.proofs.Common.{List, ◌++◌, map, take}
use Rattle.std.specs.List.{flat_map}
use Rattle.mst_rows.specs.Rows.{Row}
use Rattle.mst_summary.specs.Kept.{count_at}
use Rattle.mst_summary.specs.Vlans.{group_rows}
use Rattle.mst_summary.specs.contracts.islands.put_groups.{R-type}
use Rattle.mst_summary.proofs.islands.put_groups.Given as goal

-- the rows of the groups so far
abbrev pub invariant-loop-group : goal.invariant-loop-group
invariant-loop-group g l = (first : R-type g.row.R) (rows : List Row) → g.R.Rows.grew first l.fn.out rows → g.R.Rows.grew first l.out (rows ++ flat_map (group_rows (count_at l.numbers l.counts)) (map (λ group. group.items) (take l.group-index l.groups)))
