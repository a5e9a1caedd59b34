use Rattle.std.proofs.Common.{◌≤◌, ◌+◌, sym, subst, arith}
use Rattle.mst_tables.specs.Table.{tree_count}
use Rattle.mst_tables.proofs.TablesCounted.{one_more}
use Rattle.mst_tables.proofs.kept_table.KeptTable.map.Goals as goal
use Rattle.mst_tables.proofs.kept_table.KeptTable.map.Goals.{then-self-lt-TREE_LIMIT, else-self-lt-TREE_LIMIT}

pub invariant_of-self : goal.invariant_of-self
invariant_of-self c = elim c.if-self-lt-TREE_LIMIT.branch [
  | then-self-lt-TREE_LIMIT w ↦ (
      let was = c.self.inside.table in
      let more : tree_count c.map.new.self ≤ tree_count was + 1 = subst (λ t. tree_count t ≤ tree_count was + 1) (sym c.map.ensures) (one_more c.args.vids.now c.args.tree was) in
      omega (arith, w.self-is, more, c.self.invariant))
  | else-self-lt-TREE_LIMIT w ↦ omega (arith, w.self-is, w.tree_count-self-inside.ensures)
]
