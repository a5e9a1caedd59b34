use Rattle.std.proofs.Common.{◌≡◌, ℕ, ◌<◌, []}
use Rattle.mst_note_text.specs.Walk.{IsWalk, IsSeen}
use Rattle.mst_note_text.proofs.find.depths_of.Given as goal

abbrev pub invariant-loop-start : goal.invariant-loop-start
invariant-loop-start l = record {
  walk : IsWalk l.parents l.walk.seen.items l.walk.path.items l.walk.found.items;
  done : l.walk.path.items ≡ [];
  seen : (n : ℕ) → n < l.start → IsSeen l.walk.seen.items n;
}
