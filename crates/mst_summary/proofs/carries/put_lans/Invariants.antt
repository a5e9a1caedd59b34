use Rattle.std.proofs.Common.{◌≡◌, List, ◌++◌, take}
use Rattle.std.specs.List.{flat_map}
use Rattle.mst_rows.specs.Rows.{Row}
use Rattle.mst_vlan.specs.forest.Settled.{outcome_of}
use Rattle.mst_summary.specs.Carries.{carried, carries_rows, full_of}
use Rattle.mst_summary.specs.contracts.carries.put_lans.{R-type}
use Rattle.mst_summary.proofs.carries.put_lans.Given as goal

-- the rows of the LANs so far, and those of them that carry all
abbrev pub invariant-loop-lan : goal.invariant-loop-lan
invariant-loop-lan g l = record {
  rows : (first : R-type g.row.R) (rows : List Row) → g.R.Rows.grew first l.fn.out rows → g.R.Rows.grew first l.out (rows ++ flat_map (λ lan. carries_rows lan (carried l.kept.plan.now.net (outcome_of l.kept.plan.now) lan)) (take l.lan-index l.lans));
  full : l.full.items ≡ full_of l.kept.plan.now.net (outcome_of l.kept.plan.now) (take l.lan-index l.lans);
}
