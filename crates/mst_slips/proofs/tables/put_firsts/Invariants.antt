use Rattle.std.proofs.Common.{List, ◌++◌, take}
use Rattle.std.specs.List.{flat_map}
use Rattle.mst_rows.specs.Rows.{Row}
use Rattle.mst_slips.specs.Seen.{seen_among}
use Rattle.mst_slips.specs.contracts.tables.put_firsts.{R-type}
use Rattle.mst_slips.proofs.tables.put_firsts.Given as goal

-- the rows of the first bridges before the next
abbrev pub invariant-loop-first : goal.invariant-loop-first
invariant-loop-first g l =
    (grown : R-type g.row.R) (rows : List Row) → g.R.Rows.grew grown l.fn.out rows → g.R.Rows.grew grown l.out (rows ++ flat_map (seen_among l.view l.regions l.firsts) (take l.first-index l.firsts))
