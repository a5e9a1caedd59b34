use Rattle.std.proofs.Common.{◌≡◌, ◌+◌, length, take}
use Rattle.std.specs.List.{AllZip}
use Rattle.mst_vlan.specs.forest.Settled.{outcome_of}
use Rattle.mst_summary.specs.Vlans.{HasIslands}
use Rattle.mst_summary.proofs.islands.counts_at.Given as goal

-- the counts of the places so far
abbrev pub invariant-loop-place : goal.invariant-loop-place
invariant-loop-place l = record {
  as_long : length l.counts.items ≡ l.place-index;
  counts : AllZip (λ place count. HasIslands l.plan.net (outcome_of l.plan) (place + 1) count) (take l.place-index l.places) l.counts.items;
}
