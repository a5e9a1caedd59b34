use Rattle.std.proofs.Common.{List, ◌++◌, take}
use Rattle.std.specs.List.{flat_map}
use Rattle.mst_rows.specs.Rows.{Row}
use Rattle.mst_text.specs.TreeRuns.{port_of}
use Rattle.mst_text.specs.contracts.tree.put_ports.{R-type}
use Rattle.mst_text.proofs.tree.put_ports.Given as goal

abbrev pub invariant-loop-port : goal.invariant-loop-port
invariant-loop-port g l = (first : R-type g.row.R) (rows : List Row) → g.R.Rows.grew first l.fn.out rows → g.R.Rows.grew first l.out (rows ++ flat_map (port_of l.plan l.tree) (take l.port-index l.ports))
