use Rattle.std.proofs.Common.{◌≡◌, ◌≤◌, map, take}
use Rattle.std.specs.List.{count_by}
use Rattle.mst_diff.specs.Reach.{differ}
use Rattle.mst_diff.specs.Seen.{seen_sides, sides_at}
use Rattle.mst_diff.proofs.reach.count.Given as goal

-- those that have an island on one side so far
abbrev pub invariant-loop-vid : goal.invariant-loop-vid
invariant-loop-vid l = record {
  counted : l.count ≡ count_by (λ vid. differ (sides_at l.numbers (map seen_sides l.sides) vid)) (take l.vid-index l.vids);
  few : l.count ≤ l.vid-index;
}
