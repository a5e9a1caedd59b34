use Rattle.std.proofs.Common.{◌||◌, length, sym, ap, ◌∙◌}
use Rattle.std.specs.Prelude.{ℕ, ◌==◌, List}
use Rattle.std.specs.List.{list_any}
use Rattle.std.proofs.lemmas.Bool.{eqb-true}
use Rattle.std.proofs.lemmas.List.{nil_from_length}
use Rattle.std.proofs.lemmas.Result.{IfOk-weaker}
use Rattle.mst_net.specs.tables.Table.{has_tree}
use Rattle.mst_edits.proofs.Filtered.{among, same_trees, no_trees_either}
use Rattle.mst_edits.proofs.trees.either.Goals as goal

pub returns-then-is_empty-2 : goal.returns-then-is_empty-2
returns-then-is_empty-2 c p q left right =
    let l = nil_from_length c.args.left.now (eqb-true (length c.args.left.now) 0 (sym c.is_empty.ensures ∙ c.if-is_empty.true)) in
    let r = nil_from_length c.args.right.now (eqb-true (length c.args.right.now) 0 (sym c.is_empty-then-is_empty.ensures ∙ c.if-is_empty-2.true)) in
    c.new.ensures.items ∙ sym (no_trees_either p q (sym left ∙ l) (sym right ∙ r))

pub returns : goal.returns
returns c p q left right =
    IfOk-weaker c.all_seen.result _ _ (λ trees is.
    is
    ∙ same_trees (λ k. has_tree c.args.left.now k || has_tree c.args.right.now k) (λ k. p k || q k) (λ k small i.
    (ap (λ (l : List ℕ). list_any (λ t. t == k) l) left ∙ among p k small) i || (ap (λ (l : List ℕ). list_any (λ t. t == k) l) right ∙ among q k small) i))
    c.all_seen.ensures
