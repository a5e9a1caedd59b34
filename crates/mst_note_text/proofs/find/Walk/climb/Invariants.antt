use Rattle.std.proofs.Common.{◌≡◌, ◌⊎◌, ℕ, ◌<◌, length}
use Rattle.mst_note_text.specs.Places.{IsForest}
use Rattle.mst_note_text.specs.Walk.{IsSeen, unseen}
use Rattle.mst_note_text.proofs.Up.{IsClimb}
use Rattle.mst_note_text.proofs.find.Walk.climb.Given as goal

abbrev pub invariant-loop-self : goal.invariant-loop-self
invariant-loop-self l = record {
  climb : (forest : IsForest l.parents) → IsClimb l.parents forest.height l.at l.self.seen.items l.self.path.items l.self.found.items;
  here : l.at < length l.parents;
  each : length l.self.seen.items ≡ length l.parents;
  start : (l.at ≡ l.start) ⊎ IsSeen l.self.seen.items l.start;
  keeps : (n : ℕ) → IsSeen l.fn.self.seen.items n → IsSeen l.self.seen.items n;
}

abbrev pub decreases-loop-self : goal.decreases-loop-self
decreases-loop-self l = unseen l.self.seen.items
