use Rattle.std.proofs.Common.{◌≡◌, ℕ, ◌<◌, ◌≤◌, ◌-◌, not}
use Rattle.mst_ids.specs.Vids.{has}
use Rattle.mst_ids.proofs.vid_set.VidSet.first_from.Given as goal

abbrev pub invariant-loop-number : goal.invariant-loop-number
invariant-loop-number l = record {
  least : l.from ≤ l.number;
  most : l.number ≤ 4096;
  passed : (n : ℕ) → l.from ≤ n → n < l.number → has l.self n ≡ not l.member;
}

abbrev pub decreases-loop-number : goal.decreases-loop-number
decreases-loop-number l = 4096 - l.number
