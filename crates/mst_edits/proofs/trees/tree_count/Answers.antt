use Rattle.std.proofs.Common.{◌∙◌}
use Rattle.mst_net.specs.tables.Table.{has_tree}
use Rattle.mst_net.proofs.tables_lemmas.TableLemmas.{flags_counted}
use Rattle.mst_edits.proofs.Filtered.{or_false}
use Rattle.mst_edits.proofs.trees.tree_count.Goals as goal

pub returns : goal.returns
returns c =
    c.count.ensures
    ∙ flags_counted c.args.table.now c.seen_in-seen.result c.seen_in-seen.ensures.long (λ tree small. c.seen_in-seen.ensures.seen tree small ∙ or_false (has_tree c.args.table.now tree))
