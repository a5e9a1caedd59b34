use Rattle.std.proofs.Common.{◌≡◌, ◌++◌, List, map, take}
use Rattle.mst_path.specs.PathRows.{hop_rows}
use Rattle.mst_path.specs.Places.{named_hop}
use Rattle.mst_rows.specs.Rows.{Row}
use Rattle.mst_path.proofs.rows.put_hops.Given as goal

-- the rows of the hops so far
abbrev pub invariant-loop-hop : goal.invariant-loop-hop
invariant-loop-hop g l = record {
  number : l.number ≡ l.hop-index;
  put : (first : _) (rows : List Row) → g.R.Rows.grew first l.fn.out rows → g.R.Rows.grew first l.out (rows ++ hop_rows l.trace 1 (map named_hop (take l.hop-index l.hops)));
}
