use Rattle.std.proofs.Common.{List, ◌++◌, take}
use Rattle.std.specs.List.{flat_map}
use Rattle.mst_rows.specs.Rows.{Row}
use Rattle.mst_slips.specs.Kept.{kept_rows}
use Rattle.mst_slips.specs.contracts.lans.put_lans.{R-type}
use Rattle.mst_slips.proofs.lans.put_lans.Given as goal

-- the rows of the LANs so far
abbrev pub invariant-loop-lan : goal.invariant-loop-lan
invariant-loop-lan g l = (first : R-type g.row.R) (rows : List Row) → g.R.Rows.grew first l.fn.out rows → g.R.Rows.grew first l.out (rows ++ flat_map (kept_rows l.kept) (take l.lan-index l.lans))
