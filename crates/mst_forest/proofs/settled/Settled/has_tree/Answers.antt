use Rattle.std.proofs.Common.{◌∙◌, ◌==◌, ◌||◌, ap}
use Rattle.mst_forest.specs.InUse.{seen_has}
use Rattle.mst_forest.proofs.Seen.{bridge_seen}
use Rattle.mst_forest.proofs.Looking.{has_tree_at}
use Rattle.mst_forest.proofs.settled.Settled.has_tree.Goals as goal

pub returns : goal.returns
returns c =
    let s = c.args.self.now in
    let b = c.args.bridge.now in
    let tree = c.args.tree in
    let of = c.known.ensures.of in
    let seen = bridge_seen s.net s.numbers s.view of.view b c.requires in
    c.has_tree.ensures ∙ ap (λ v. seen_has v tree b.bridge.number) c.view.ensures
    ∙ ap (λ t. tree == 0 || t) (has_tree_at s.net s.numbers s.view s.forest.regions of tree b.name b.bridge.number seen.has_number)
