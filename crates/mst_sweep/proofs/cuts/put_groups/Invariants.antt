use Rattle.std.proofs.Common.{List, ◌++◌, map, take}
use Rattle.std.specs.List.{flat_map}
use Rattle.mst_rows.specs.Rows.{Row}
use Rattle.mst_sweep.specs.Cuts.{group_rows, names_of, parts_at}
use Rattle.mst_sweep.specs.contracts.cuts.put_groups.{R-type}
use Rattle.mst_sweep.proofs.cuts.put_groups.Given as goal

-- the rows of the groups so far
abbrev pub invariant-loop-group : goal.invariant-loop-group
invariant-loop-group g l =
    (first : R-type g.row.R) (rows : List Row) → g.R.Rows.grew first l.fn.out rows
    → g.R.Rows.grew first l.out (rows ++ flat_map (λ group. group_rows l.by (parts_at l.numbers (map names_of l.each)) group.items) (take l.group-index l.groups))
