use Rattle.std.proofs.Common.{◌≡◌, ◌&&◌, not}
use Rattle.mst_ids.specs.Vids.{set_where, has}
use Rattle.mst_slips.proofs.VidsThat.{below}
use Rattle.mst_slips.proofs.vlans.vids_without.Given as goal

-- those below the next number
abbrev pub invariant-loop-number : goal.invariant-loop-number
invariant-loop-number l = l.left ≡ set_where (below (λ vid. has l.vids vid && not (has l.others vid)) l.number)
