use Rattle.std.proofs.Common.{◌≡◌, ap, ◌∙◌, arith}
use Rattle.mst_tables.specs.Table.{tree_count}
use Rattle.mst_tables.proofs.TablesCounted.{none_counted}
use Rattle.mst_tables.proofs.kept_table.KeptTable.new.Goals as goal

pub invariant_of-result : goal.invariant_of-result
invariant_of-result c = let none : tree_count c.new.result ≡ 0 = ap tree_count c.new.ensures ∙ none_counted in omega (arith, none)
