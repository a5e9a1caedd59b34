use Rattle.mst_records.proofs.Marks.{none_marked}
use Rattle.mst_records.proofs.blocks.Blocks.none.Goals as goal

pub returns-clause-none : goal.returns-clause-none
returns-clause-none c tree = none_marked tree
