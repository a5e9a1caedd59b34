use Rattle.std.proofs.Common.{◌||◌}
use Rattle.mst_net.specs.tables.Table.{has_tree}
use Rattle.mst_net.specs.tables.TreesSet.{trees_where}
use Rattle.mst_edits.proofs.trees.all_seen.Goals as goal

pub returns : goal.returns
unfolding trees_where
returns c = c.listed.ensures (λ tree. has_tree c.args.left.now tree || has_tree c.args.right.now tree) c.seen_in.ensures.seen
