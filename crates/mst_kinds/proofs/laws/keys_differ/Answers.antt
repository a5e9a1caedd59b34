use Rattle.mst_kinds.proofs.Table.{keys_differ}
use Rattle.mst_kinds.proofs.laws.keys_differ.Goals as goal

pub returns : goal.returns
returns c = keys_differ
