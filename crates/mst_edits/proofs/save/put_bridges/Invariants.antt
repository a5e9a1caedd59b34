use Rattle.std.proofs.Common.{List, ◌++◌, take, true}
use Rattle.std.specs.List.{flat_map}
use Rattle.mst_rows.specs.Rows.{Row}
use Rattle.mst_edits.specs.Edits.{bridge_part}
use Rattle.mst_edits.specs.EditRows.{edits_rows}
use Rattle.mst_edits.specs.contracts.save.put_bridges.{R-type}
use Rattle.mst_edits.proofs.save.put_bridges.Given as goal

-- the rows of those before it
abbrev pub invariant-loop-name : goal.invariant-loop-name
invariant-loop-name g l = (first : R-type g.row.C g.row.D g.row.R) (rows : List Row) → g.R.Rows.grew first l.fn.out rows → g.R.Rows.grew first l.out (rows ++ flat_map (λ bridge. edits_rows (bridge_part true (g.C.Contents.tables l.old).net (g.D.Contents.tables l.new).net bridge)) (take l.name-index l.name-items))
