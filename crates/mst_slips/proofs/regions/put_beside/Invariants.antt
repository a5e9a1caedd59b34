use Rattle.std.proofs.Common.{List, ◌++◌, take}
use Rattle.std.specs.List.{flat_map}
use Rattle.mst_rows.specs.Rows.{Row}
use Rattle.mst_slips.specs.Seen.{seen_two}
use Rattle.mst_slips.specs.contracts.regions.put_beside.{R-type}
use Rattle.mst_slips.proofs.regions.put_beside.Given as goal

-- the rows with those so far
abbrev pub invariant-loop-other : goal.invariant-loop-other
invariant-loop-other g l =
    (grown : R-type g.row.R) (rows : List Row) → g.R.Rows.grew grown l.fn.out rows → g.R.Rows.grew grown l.out (rows ++ flat_map (seen_two l.view l.regions l.first) (take l.other-index l.behind))
