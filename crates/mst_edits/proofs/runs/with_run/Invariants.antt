use Rattle.std.proofs.Common.{◌≡◌, ℕ, List}
use Rattle.mst_ids.specs.Vids.{set_where}
use Rattle.mst_edits.specs.Runs.{vids_of}
use Rattle.mst_edits.proofs.RunSets.{with_below}
use Rattle.mst_edits.proofs.runs.with_run.Given as goal

abbrev pub invariant-loop-number : goal.invariant-loop-number
invariant-loop-number l = (runs : List (ℕ × ℕ)) → l.vids ≡ vids_of runs → l.more ≡ set_where (with_below runs l.fn.run.0 l.number)
