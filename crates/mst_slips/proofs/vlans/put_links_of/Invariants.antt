use Rattle.std.proofs.Common.{List, ◌++◌, take}
use Rattle.std.specs.List.{flat_map}
use Rattle.mst_rows.specs.Rows.{Row}
use Rattle.mst_slips.specs.Kept.{kept_link}
use Rattle.mst_slips.specs.contracts.vlans.put_links_of.{R-type}
use Rattle.mst_slips.proofs.vlans.put_links_of.Given as goal

-- the rows of the LANs before the next
abbrev pub invariant-loop-lan : goal.invariant-loop-lan
invariant-loop-lan g l =
    (first : R-type g.row.R) (rows : List Row) → g.R.Rows.grew first l.fn.out rows → g.R.Rows.grew first l.out (rows ++ flat_map (kept_link l.view.settings l.kept) (take l.lan-index l.lans))
