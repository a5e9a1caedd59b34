use Rattle.std.proofs.Common.{◌≡◌}
use Rattle.mst_tables.specs.Table.{tree_in}
use Rattle.mst_classes.specs.Alike.{keys_to}
use Rattle.mst_classes.proofs.by_table.split_by_keys.Given as goal

abbrev pub invariant-loop-place : goal.invariant-loop-place
invariant-loop-place l = l.keys.items ≡ keys_to (tree_in l.table) l.numbers l.place
