use Rattle.std.proofs.Common.{◌≡◌, ◌≤◌, ◌+◌, ◌-◌, ◌++◌, List, drop}
use Rattle.mst_rows.specs.Rows.{Row}
use Rattle.mst_view.specs.Viewed.{IsView}
use Rattle.mst_sweep.specs.Failures.{failures}
use Rattle.mst_sweep.specs.Pairs.{Pair, pairs_of}
use Rattle.mst_sweep.specs.SweepParts.{part_of}
use Rattle.mst_sweep.proofs.Windows.{piece}
use Rattle.mst_sweeping.specs.Pairing.{IsPairing, ArePairsTold}
use Rattle.mst_sweeping.specs.Sweeping.{Puts}
use Rattle.mst_sweeping.proofs.pairing.put_pairs_of.Given as goal

-- the pairs of the part so far, which have these rows, and what is left of it: a piece of the pairs of the failures that are left
abbrev pub invariant-loop-first : goal.invariant-loop-first
invariant-loop-first g l = record {
  seen : IsView l.pairing.network.now.net l.pairing.network.now.numbers l.seen;
  order : l.begin ≤ l.end;
  few : l.cuts + (l.end - l.begin) ≤ l.pairs;
  told : (is : IsPairing l.pairing) → (done : List Pair) × (rows : List Row) × ArePairsTold l.pairing.network.now.net is.plan.forest.outcome done l.cuts rows × Puts g.R.Rows.grew l.fn.out l.out rows
      × (part_of l.fn.part (pairs_of (failures l.pairing.network.now.net)) ≡ done ++ piece l.begin l.end (pairs_of (drop l.first (failures l.pairing.network.now.net))));
}
