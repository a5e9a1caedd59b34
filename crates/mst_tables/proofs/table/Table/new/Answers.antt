use Rattle.std.proofs.Common.{replicate, ap}
use Rattle.mst_tables.specs.Table.{no_table}
use Rattle.mst_tables.proofs.table.Table.new.Goals as goal

pub returns : goal.returns
unfolding no_table
returns c = ap (replicate 4094) c.cist-cist.ensures
