use Rattle.std.proofs.Common.{ap, ◌++◌, ◌∙◌}
use Rattle.std.specs.List.{filter}
use Rattle.mst_roles.specs.forest.Settled.{outcome_of}
use Rattle.mst_changes.specs.Values.{value_at}
use Rattle.mst_changes.specs.Kept.{entries_in}
use Rattle.mst_changes.specs.Stored.{kept_entries}
use Rattle.mst_changes.specs.TreeChanges.{either_in}
use Rattle.mst_changes.proofs.ByTree.{is_of, of_network}
use Rattle.mst_changes.proofs.Changed.{either_in_rise, tree_left, tree_right}
use Rattle.mst_changes.proofs.changes.put_tree_changes.Goals as goal

pub returns : goal.returns
returns g c a o olds first rows grew =
    let s = c.args.new.now in
    let q = outcome_of s in
    let tree = c.args.tree in
    (c.in_ok-put_merged.ensures (either_in a s.net tree) (value_at a o) (value_at s.net q) (either_in_rise a s.net tree)
    (c.as_slice.ensures.value ∙ c.in_ok-push_tree.ensures {u = tt} ∙ ap (λ l. l ++ filter (is_of tree) (kept_entries c.args.old.now)) c.new-olds.ensures.items
    ∙ ap (filter (is_of tree)) olds ∙ of_network a o tree c.requires.tree ∙ tree_left a o s.net tree)
    (c.as_slice-2.ensures.value ∙ c.in_ok-push_tree-2.ensures {u = tt} ∙ ap (λ l. l ++ entries_in s.net q tree) c.new-news.ensures.items ∙ tree_right s.net q a tree) first rows grew).1
