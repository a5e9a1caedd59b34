use Rattle.std.proofs.Common.{◌≡◌, List, ◌++◌}
use Rattle.std.specs.List.{flat_map, range_with_len}
use Rattle.mst_changes.specs.PortChanges.{counted}
use Rattle.mst_rows.specs.Rows.{Row}
use Rattle.mst_diff.specs.Seen.{ports_of}
use Rattle.mst_diff.specs.contracts.ports.put_ports.{R-type}
use Rattle.mst_diff.proofs.ports.put_ports.Given as goal

-- the rows of the trees so far, counted
abbrev pub invariant-loop-number : goal.invariant-loop-number
invariant-loop-number g l = (first : R-type g.row.R) (rows : List Row) → g.R.Rows.grew first l.fn.out rows
    → (l.count ≡ counted (flat_map (ports_of l.change.old.now l.change.new.now) (range_with_len 0 l.number)))
    × g.R.Rows.grew first l.out (rows ++ flat_map (ports_of l.change.old.now l.change.new.now) (range_with_len 0 l.number))
