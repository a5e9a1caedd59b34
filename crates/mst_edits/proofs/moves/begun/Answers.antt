use Rattle.std.proofs.Common.{[]}
use Rattle.mst_edits.proofs.moves.begun.Goals as goal

pub returns-clause-vids : goal.returns-clause-vids
returns-clause-vids c = c.with_run.ensures [] c.none.ensures
