use Rattle.std.proofs.Common.{◌≡◌}
use Rattle.mst_note_text.specs.Walk.{IsWalk}
use Rattle.mst_note_text.proofs.find.Walk.descend.Given as goal

abbrev pub invariant-loop-at : goal.invariant-loop-at
invariant-loop-at l = record {
  walk : IsWalk l.parents l.self.seen.items l.self.path.items l.self.found.items;
  seen : l.self.seen.items ≡ l.fn.self.seen.items;
}

abbrev pub decreases-loop-at : goal.decreases-loop-at
decreases-loop-at l = goal.left-loop-at l
