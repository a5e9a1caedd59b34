use Rattle.std.proofs.Common.{◌≡◌}
use Rattle.mst_ids.specs.Vids.{has, set_where}
use Rattle.mst_edits.specs.TableLines.{vids_in}
use Rattle.mst_edits.proofs.Sets.{with_below}
use Rattle.mst_edits.proofs.vids.add_tree.Given as goal

-- those below the next number
abbrev pub invariant-loop-number : goal.invariant-loop-number
invariant-loop-number l = l.vids ≡ set_where (with_below (has l.fn.vids) (has (vids_in l.table l.tree)) l.number)
