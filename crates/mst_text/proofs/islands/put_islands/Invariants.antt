use Rattle.std.proofs.Common.{List, ◌++◌, map, take}
use Rattle.mst_ids.specs.Vids.{runs_from}
use Rattle.mst_rows.specs.Rows.{Row}
use Rattle.mst_text.specs.VlanSeen.{seen_island}
use Rattle.mst_text.specs.contracts.islands.put_islands.{R-type}
use Rattle.mst_text.proofs.islands.put_islands.Given as goal

abbrev pub invariant-loop-island : goal.invariant-loop-island
invariant-loop-island g l =
    (first : R-type g.row.R) (rows : List Row) → g.R.Rows.grew first l.fn.out rows → g.R.Rows.grew first l.out (rows ++ map (seen_island l.view (runs_from 0 l.vids)) (take l.island-index l.islands))
