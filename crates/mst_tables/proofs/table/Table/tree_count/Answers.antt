use Rattle.std.proofs.Common.{◌∙◌}
use Rattle.mst_tables.proofs.TableLemmas.{flags_counted}
use Rattle.mst_tables.proofs.table.Table.tree_count.Goals as goal

pub returns : goal.returns
returns c = c.count.ensures ∙ flags_counted c.args.self.now c.trees_seen-seen.result c.trees_seen-seen.ensures.long c.trees_seen-seen.ensures.seen
