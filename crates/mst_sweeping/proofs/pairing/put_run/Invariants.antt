use Rattle.std.proofs.Common.{◌≤◌, ◌∷◌, [], List, map, take}
use Rattle.std.specs.List.{AllByRecursion}
use Rattle.mst_view.specs.Viewed.{IsView}
use Rattle.mst_rows.specs.Rows.{Row}
use Rattle.mst_sweep.specs.Failures.{failed}
use Rattle.mst_sweep.specs.Pairs.{with_each}
use Rattle.mst_sweeping.specs.Pairing.{IsPairing, IsSingle, ArePairsTold}
use Rattle.mst_sweeping.specs.Sweeping.{Puts}
use Rattle.mst_sweeping.proofs.pairing.put_run.Given as goal

-- what the pairs so far do, and the view of the network with the first failure
abbrev pub invariant-loop-other : goal.invariant-loop-other
invariant-loop-other g l = record {
  told : (is : IsPairing l.pairing) → IsSingle l.pairing.network.now.net l.pairing.network.now.numbers is.plan.forest.outcome l.pairing.baseline.now l.one
      → AllByRecursion (IsSingle l.pairing.network.now.net l.pairing.network.now.numbers is.plan.forest.outcome l.pairing.baseline.now) l.others
      → (rows : List Row) × ArePairsTold l.pairing.network.now.net is.plan.forest.outcome (with_each l.one.failure (map (λ s. s.failure) (take l.other-index l.others))) l.cuts rows × Puts g.R.Rows.grew l.fn.out l.out rows;
  few : l.cuts ≤ l.other-index;
  seen : IsView (failed (l.one.failure ∷ []) l.pairing.network.now.net) l.pairing.network.now.numbers l.seen;
}
