use Rattle.std.proofs.Common.{List, take}
use Rattle.mst_path.specs.Places.{named_path}
use Rattle.mst_rows.specs.Rows.{Row}
use Rattle.mst_sweeping.specs.Sweeping.{Puts}
use Rattle.mst_tracing.proofs.Fated.{AreFew, AreSoFar}
use Rattle.mst_tracing.proofs.always.put_fates.Given as goal
use Rattle.mst_view.specs.Viewed.{IsView}

-- what becomes of the path after the failures so far, and the view of the network
abbrev pub invariant-loop-failure : goal.invariant-loop-failure
invariant-loop-failure g l = record {
  told : (rows : List Row) × AreSoFar l.network.net l.trace (named_path l.before) (take l.failure-index l.failure-items) l.fates rows × Puts g.R.Rows.grew l.fn.out l.out rows;
  few : AreFew l.fates l.failure-index;
  seen : IsView l.network.net l.network.numbers l.seen;
}
