use Rattle.std.proofs.Common.{subst}
use Rattle.mst_tables.specs.Table.{tree_in}
use Rattle.mst_classes.specs.Alike.{IsSplit}
use Rattle.mst_classes.proofs.Split.{tables_more}
use Rattle.mst_classes.proofs.alike.split_by_tables.Goals as goal

pub loop-table-preserved : goal.loop-table-preserved
loop-table-preserved c = record {
  told = tables_more c.args.tables.now c.loop-table.table-index c.table-item.result c.loop-table-test.true c.table-item.is c.loop-table.numbers.items c.in_ok-numbers-2.numbers.items c.loop-table.invariant.told
      (subst (λ ns. IsSplit (tree_in c.table-item.result) ns c.in_ok-numbers-2.numbers.items) c.as_slice.ensures.value c.in_ok-numbers-2.ensures.split);
  small = c.in_ok-numbers-2.ensures.small;
}
