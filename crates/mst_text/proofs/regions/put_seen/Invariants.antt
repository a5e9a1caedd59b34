use Rattle.std.proofs.Common.{List, ◌++◌, take}
use Rattle.std.specs.List.{flat_map}
use Rattle.mst_rows.specs.Rows.{Row}
use Rattle.mst_text.specs.Members.{seen_region}
use Rattle.mst_text.specs.contracts.regions.put_seen.{R-type}
use Rattle.mst_text.proofs.regions.put_seen.Given as goal

abbrev pub invariant-loop-bridge : goal.invariant-loop-bridge
invariant-loop-bridge g l =
    (first : R-type g.row.R) (rows : List Row) → g.R.Rows.grew first l.fn.out rows → g.R.Rows.grew first l.out (rows ++ flat_map (seen_region l.view l.regions) (take l.bridge-index l.bridge-items))
