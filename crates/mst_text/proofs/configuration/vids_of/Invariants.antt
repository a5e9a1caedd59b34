use Rattle.std.proofs.Common.{◌≡◌}
use Rattle.mst_ids.specs.Vids.{set_where}
use Rattle.mst_text.proofs.VidsOf.{below}
use Rattle.mst_text.proofs.configuration.vids_of.Given as goal

-- those below the next number
abbrev pub invariant-loop-number : goal.invariant-loop-number
invariant-loop-number l = l.vids ≡ set_where (below l.table l.tree l.number)
