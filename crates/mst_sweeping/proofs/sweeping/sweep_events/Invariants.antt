use Rattle.std.proofs.Common.{◌≤◌, List, take}
use Rattle.mst_view.specs.Viewed.{IsView}
use Rattle.mst_rows.specs.Rows.{Row}
use Rattle.mst_plan.specs.forest.Forest.{IsForest}
use Rattle.mst_sweeping.specs.Sweeping.{AreTold, Puts}
use Rattle.mst_sweeping.proofs.sweeping.sweep_events.Given as goal

-- what the events so far do, and the view of the network
abbrev pub invariant-loop-event : goal.invariant-loop-event
invariant-loop-event g l = record {
  told : (is : IsForest l.network.net l.network.numbers l.plan.forest)
      → (rows : List Row) × AreTold l.network.net is.outcome (take l.event-index l.events) l.cuts rows × Puts g.R.Rows.grew l.fn.out l.out rows;
  few : l.cuts ≤ l.event-index;
  seen : IsView l.network.net l.network.numbers l.seen;
}
