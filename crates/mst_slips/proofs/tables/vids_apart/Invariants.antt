use Rattle.std.proofs.Common.{◌≡◌, ◌==◌, not}
use Rattle.mst_ids.specs.Vids.{set_where}
use Rattle.mst_tables.specs.Table.{tree_in}
use Rattle.mst_slips.proofs.VidsThat.{below}
use Rattle.mst_slips.proofs.tables.vids_apart.Given as goal

-- those below the next number
abbrev pub invariant-loop-number : goal.invariant-loop-number
invariant-loop-number l = l.vids ≡ set_where (below (λ vid. not (tree_in l.table vid == tree_in l.others vid)) l.number)
