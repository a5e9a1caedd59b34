use Rattle.std.proofs.Common.{◌≡◌, ℕ, ◌-◌, List, ◌++◌}
use Rattle.mst_edits.proofs.Cutting.{Putting}
use Rattle.mst_edits.proofs.MovesInTurn.{moves_of}
use Rattle.mst_edits.proofs.moves.add_moves.Given as goal

-- the lines before the one that has begun are added
abbrev pub invariant-loop-run : goal.invariant-loop-run
invariant-loop-run l = (before : List (List (ℕ × ℕ))) × Putting l.name l.tree before l.vids l.line.vids l.line.length l.next × (l.moves.items ≡ l.fn.moves.items ++ moves_of l.tree before)

abbrev pub decreases-loop-run : goal.decreases-loop-run
decreases-loop-run l = 4096 - l.next
