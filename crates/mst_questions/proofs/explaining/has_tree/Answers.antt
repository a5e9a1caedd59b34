use Rattle.std.proofs.Common.{◌∙◌, ap}
use Rattle.mst_roles.specs.forest.InUse.{seen_has}
use Rattle.mst_questions.proofs.Explained.{has_tree_by_number}
use Rattle.mst_questions.proofs.explaining.has_tree.Goals as goal

pub returns : goal.returns
returns c =
    let p = c.args.port.now in
    let tree = c.args.tree in
    c.has_tree.ensures ∙ ap (λ v. seen_has v tree p.bridge) c.view.ensures ∙ has_tree_by_number c.args.plan.now c.known.ensures p c.requires tree
