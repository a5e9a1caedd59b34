use Rattle.std.proofs.Common.{◌∙◌}
use Rattle.mst_net.specs.tables.Table.{has_tree, mstis_in}
use Rattle.mst_edits.proofs.Filtered.{or_false}
use Rattle.mst_edits.proofs.trees.mstis.Goals as goal

pub returns : goal.returns
unfolding mstis_in
returns c = c.listed.ensures (has_tree c.args.table.now) (λ tree small. c.seen_in.ensures.seen tree small ∙ or_false (has_tree c.args.table.now tree))
