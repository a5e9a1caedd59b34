use Rattle.std.proofs.Common.{[], ◌∷◌, ◌++◌, ◌∙◌, ap}
use Rattle.mst_tree_judges.proofs.ChildAdded.{child_added}
use Rattle.mst_tree_judges.proofs.leaves.add.Goals as goal

pub returns : goal.returns
returns c =
    let child = c.args.child.now in
    child_added c.args.kept.now c.taken-names.new.kept c.insert.new.self c.args.parent.now child c.push.new.self c.taken-names.ensures.gone c.in_ok-insert.ensures.updates.0
    (c.in_ok-push.ensures.items ∙ ap (λ t. t ++ child ∷ []) c.taken-names.ensures.kept)
