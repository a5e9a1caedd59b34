use Rattle.std.proofs.Common.{◌≡◌, false}
use Rattle.mst_ids.specs.Vids.{set_where}
use Rattle.mst_edits.proofs.Sets.{with_below}
use Rattle.mst_edits.proofs.Moved.{is_moved}
use Rattle.mst_edits.proofs.vids.moved_to.Given as goal

-- those below the next number
abbrev pub invariant-loop-number : goal.invariant-loop-number
invariant-loop-number l = l.vids ≡ set_where (with_below (λ _. false) (is_moved l.before l.after l.tree) l.number)
