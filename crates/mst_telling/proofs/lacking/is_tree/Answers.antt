use Rattle.std.proofs.Common.{◌≡◌, ◌==◌, ◌||◌, false, sym, ap, ◌∙◌}
use Rattle.std.proofs.lemmas.Bool.{ne_eqb}
use Rattle.mst_roles.specs.forest.Msti.{is_had}
use Rattle.mst_roles.specs.forest.InUse.{is_in_use}
use Rattle.mst_telling.proofs.LackedSeen.{tree_seen}
use Rattle.mst_telling.proofs.lacking.is_tree.Goals as goal

pub returns-else-value-eq0 : goal.returns-else-value-eq0
returns-else-value-eq0 c =
    let s = c.args.plan.now in
    let tree = c.args.tree in
    let other : (tree == 0) ≡ false = ne_eqb tree 0 (λ e. c.if-value-eq0.false (c.value.ensures.value ∙ e)) in
    c.is_had.ensures ∙ ap (λ v. is_in_use v tree) c.view.ensures ∙ tree_seen s.net s.numbers s.view s.forest.regions c.known.ensures.of tree
    ∙ ap (λ b. b || is_had s.net tree) (sym other)
